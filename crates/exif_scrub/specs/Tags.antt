-- Which tags describe a picture (TIFF 6.0, sections 8 and 11 to 23; Adobe Photoshop TIFF Technical
-- Notes; ICC.1:2022, B.5), and which values show a raw file (DNG 1.6; TIFF/EP).
use Rattle.std.specs.Prelude.{ℕ, nat_le, Bool, true, false, ◌==◌, ◌&&◌, ◌||◌, if◌then◌else◌}

-- whether a number is one of a range
abbrev pub in_range : ℕ → ℕ → ℕ → Bool
in_range low high n = nat_le low n && nat_le n high

-- whether a tag describes its picture: its kind, size, encoding, colours, strips, tiles, resolution
-- and page; the directories below; and the orientation where it is kept
abbrev pub describes_picture : Bool → ℕ → Bool
describes_picture keeps_orientation tag =
    if in_range 254 259 tag || in_range 262 266 tag || (tag == 273) || in_range 277 284 tag
    || in_range 290 293 tag || in_range 296 297 tag || (tag == 301) || in_range 317 325 tag
    || (tag == 330) || (tag == 332) || (tag == 334) || (tag == 336) || in_range 338 342 tag
    || in_range 346 347 tag || in_range 512 515 tag || in_range 529 532 tag || (tag == 34675)
    then true else if tag == 274 then keeps_orientation else false

-- whether a compression is one of cameras' raw files
abbrev pub is_raw_compression : ℕ → Bool
is_raw_compression n =
    (n == 262) || (n == 32767) || (n == 32769) || (n == 34316) || (n == 34713) || (n == 65000)
    || (n == 65535)

-- whether a photometric interpretation is a colour filter array, or linear raw
abbrev pub is_raw_photometric : ℕ → Bool
is_raw_photometric n = (n == 32803) || (n == 34892)

-- whether a compression is JPEG: the old one, the one of TIFF Technical Note 2, or the lossy one of
-- DNG
abbrev pub is_jpeg_compression : ℕ → Bool
is_jpeg_compression n = (n == 6) || (n == 7) || (n == 34892)

-- how many bytes an item of a type has; 0 for a type that is not known
abbrev pub size_of_type : ℕ → ℕ
size_of_type n =
    if (n == 1) || (n == 2) || (n == 6) || (n == 7) then 1 else
    if (n == 3) || (n == 8) then 2 else
    if (n == 4) || (n == 9) || (n == 11) || (n == 13) then 4 else
    if (n == 5) || (n == 10) || (n == 12) then 8 else 0
