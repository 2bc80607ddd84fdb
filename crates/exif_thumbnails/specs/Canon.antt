-- The preview of a CR3 file. There is no public standard of it: a `uuid` of Canon's beside `moov`
-- holds it in a box `PRVW`.
use Rattle.std.specs.Prelude.{ℕ, nat_le, ◌&&◌, Bool, if◌then◌else◌, List, [], ◌∷◌, length, take, drop, codes, Option, Some, None, Result, Ok}
use Rattle.std.specs.Option.{option_and_then}
use Rattle.std.specs.Str.{bytes_eq}
use Rattle.byteorder.specs.Endian.{big_number}
use Rattle.exif_types.specs.Refusals.{Refusal, ◌>>=◌}
use Rattle.exif_formats.specs.Cr3.{held_front}
use Rattle.exif_thumbnails.specs.Seen.{Shown, jpeg_within}

-- the type of that `uuid`: eaf42b5e-1c98-4b88-b9fb-b7dc406e4d16
abbrev pub preview_type : List ℕ
preview_type =
    0xea ∷ 0xf4 ∷ 0x2b ∷ 0x5e ∷ 0x1c ∷ 0x98 ∷ 0x4b ∷ 0x88 ∷ 0xb9 ∷ 0xfb ∷ 0xb7 ∷ 0xdc ∷ 0x40 ∷ 0x6e
    ∷ 0x4d ∷ 0x16 ∷ []

-- how many bytes of it are looked at: what is before the data, and 1 MiB
abbrev pub preview_len : ℕ
preview_len = 1048608

-- whether what it holds is 8 bytes and the box `PRVW`, as far as the data
abbrev pub is_preview : List ℕ → Bool
is_preview held = nat_le 32 (length held) && bytes_eq (take 4 (drop 12 held)) (codes "PRVW")

-- the preview in it: the box has its size and its type (4 bytes each), 4 bytes, 2 more, the width
-- and the height (2 each), 2 more, the length of the data (4), and the data
abbrev pub preview_in : List ℕ → Option Shown
preview_in held =
    if is_preview held then Some (jpeg_within (big_number 4 (drop 28 held)) (drop 32 held))
    else None

-- the preview of a file, if it has one
abbrev pub cr3_preview : List ℕ → Result (Option Shown) Refusal
cr3_preview file =
    held_front (codes "uuid") preview_type preview_len file
    >>= λ found. Ok (option_and_then preview_in found)
