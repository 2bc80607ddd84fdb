-- What the steps of the JPEG XL reader answer.
use Rattle.std.specs.Prelude.{◌≡◌, ℕ, List, [], ⊤, Option, Some, None, Result, Ok, Err, nat_lt, length, take, drop, if◌then◌else◌}
use Rattle.exif_types.specs.Refusals.{Refusal}
use Rattle.exif_formats.specs.Jxl.{Box, exif, other, broken_jxl, exif_box, brotli_box, last_of, named_box, whole_box}

-- the box that a step took: its TIFF data, or none of another, where these bytes follow it
abbrev pub box_of : Option (List ℕ) → List ℕ → Box
box_of (Some tiff) rest = exif tiff rest
box_of None rest = other rest

-- a box of this type whose body has so many of the bytes that follow its header, or all
abbrev pub box_behind : List ℕ → Option ℕ → List ℕ → Result Box Refusal
box_behind name None bytes = last_of (named_box name bytes [])
box_behind name (Some len) bytes = whole_box name len bytes

-- the box is one whose TIFF data are collected, whole or cut
abbrev pub IsCollected : Result Box Refusal → Type 0
IsCollected (Ok (exif tiff rest)) = ⊤
IsCollected (Ok (other rest)) = ⊥
IsCollected (Err r) = r ≡ broken_jxl

-- a box `Exif` whose body has so many bytes
abbrev pub whole_exif : ℕ → List ℕ → Result Box Refusal
whole_exif len bytes =
    if nat_lt (length bytes) len then Err broken_jxl else exif_box (take len bytes) (drop len bytes)

-- a box `brob` whose body has so many bytes
abbrev pub whole_brotli : ℕ → List ℕ → Result Box Refusal
whole_brotli len bytes =
    if nat_lt (length bytes) len then Err broken_jxl else
    brotli_box (take len bytes) (drop len bytes)
