-- A WebP file with another XMP packet or colour profile (WebP Container Specification, "RIFF File
-- Format", "Extended File Format").
use Rattle.std.specs.Prelude.{ℕ, ◌+◌, ◌-◌, List, ◌++◌, length, take, drop, codes, slice_index, slice_set, bit_or, nat_lt, nat_le, Bool, ◌&&◌, Result, Ok, Err, if◌then◌else◌}
use Rattle.std.specs.Str.{bytes_eq}
use Rattle.byteorder.specs.Endian.{little_bytes, little_number}
use Rattle.exif_types.specs.Refusals.{Refusal, not_supported, too_big, ◌>>=◌}
use Rattle.exif_inventory.specs.declared.piece.State.TheVariants.{Chunks}
use Rattle.exif_blocks.specs.Blocks.{blocks_put}
use Rattle.exif_blocks.specs.PutRefusals.{packet_too_large, profile_too_large}
use Rattle.exif_blocks.specs.PutViews.{Packet, packet_alone}
use Rattle.exif_parts.specs.WebpChunks.{body_space, chunk_bytes}
use Rattle.exif_blocks.specs.declared.blocks.Block.{Block}
use Rattle.exif_blocks.specs.declared.blocks.Block.TheVariants as block
use Rattle.exif_blocks.specs.declared.step.Place.{Place}
use Rattle.exif_blocks.specs.declared.step.Place.TheVariants.{BehindExif, BehindFirst}

-- ---- the header of a file

-- whether a file has the extended header
abbrev pub is_extended : List ℕ → Bool
is_extended file =
    nat_le 30 (length file) && bytes_eq (take 4 (drop 12 file)) (codes "VP8X")

-- flags with one of them
abbrev pub with_flag : ℕ → ℕ → ℕ
with_flag flag flags = bit_or flags flag

-- no extended header
abbrev pub not_extended : Refusal
not_extended = not_supported (codes "WebP file without an extended header")

-- what a file counts in its header that was made of an old one and has this length
abbrev pub new_size : List ℕ → ℕ → ℕ
new_size old len = little_number 4 (drop 4 old) + len - length old

-- a file that counts so many bytes, with a flag
abbrev pub with_size : ℕ → ℕ → List ℕ → List ℕ
with_size flag size new =
    let counted = take 4 new ++ (little_bytes 4 size ++ drop 8 new) in
    slice_set counted 20 (with_flag flag (slice_index counted 20))

-- a file that was made of an old one, with its size and a flag; four bytes hold its size
abbrev pub resized : List ℕ → ℕ → List ℕ → List ℕ → Result (List ℕ) Refusal
resized old flag too_large new =
    if is_extended old && is_extended new then
    (if nat_lt 4294967295 (new_size old (length new)) then Err (too_big too_large)
    else Ok (with_size flag (new_size old (length new)) new))
    else Err not_extended

-- ---- the new file

-- its chunks, which have so much space, with a new one, behind its header as it was
abbrev pub file_put : Block → Place → ℕ → List ℕ → List ℕ → List ℕ
file_put block place space chunk file =
    blocks_put (length (drop 12 file)) block place (Chunks space) chunk (drop 12 file)
    (take 12 file)

-- a file with this packet in place of its own: behind its Exif data, or behind all chunks
abbrev pub with_packet : ℕ → List ℕ → List ℕ → Result (List ℕ) Refusal
with_packet space packet file =
    if nat_lt 4294967295 (length packet) then Err packet_too_large else
    resized file 4 (codes "XMP packet too large")
    (file_put block.Xmp BehindExif space (chunk_bytes (codes "XMP ") packet) file)

abbrev pub webp_with_xmp : Packet → List ℕ → Result (List ℕ) Refusal
webp_with_xmp xmp file =
    body_space file >>= λ space. packet_alone xmp >>= λ packet. with_packet space packet file

-- a file with this profile in place of its own: behind its extended header
abbrev pub with_color : ℕ → List ℕ → List ℕ → Result (List ℕ) Refusal
with_color space profile file =
    if nat_lt 4294967295 (length profile) then Err profile_too_large else
    resized file 32 (codes "Colour profile too large")
    (file_put block.Profile BehindFirst space (chunk_bytes (codes "ICCP") profile) file)

abbrev pub webp_with_profile : List ℕ → List ℕ → Result (List ℕ) Refusal
webp_with_profile profile file =
    body_space file >>= λ space. with_color space profile file
