-- Item information (ISO/IEC 14496-12:2015, 8.11.6).
use Rattle.std.specs.Prelude.{ℕ, ◌==◌, if◌then◌else◌, List, [], ◌∷◌, Option, Some, None, Result, Ok, codes}
use Rattle.std.specs.Str.{bytes_eq}
use Rattle.exif_isobmff.specs.declared.kind.Kind.TheVariants.{ItemInfoEntry}
use Rattle.exif_types.specs.Refusals.{Refusal, ◌>>=◌, or_refuse}
use Rattle.exif_isobmff.specs.HeifRefusals.{unsupported_infe}
use Rattle.exif_isobmff.specs.Boxes.{bytes_at, number_at, version_at, boxes, read_each}

-- how many bytes an item's number takes in an entry of a version
abbrev pub entry_width : ℕ → Option ℕ
entry_width version = if version == 2 then Some 2 else (if version == 3 then Some 4 else None)

-- the number of the item that an entry is about, where its type is `Exif`
unfoldable pub exif_number : List ℕ → Result (List ℕ) Refusal
exif_number body = do
  version ← version_at body
  width ← or_refuse (entry_width version.0) unsupported_infe
  number ← number_at width version.1
  protection ← bytes_at 2 number.1
  type ← bytes_at 4 protection.1
  Ok (if bytes_eq type.0 (codes "Exif") then number.0 ∷ [] else [])

-- the numbers of the Exif items that an `iinf` box names: it counts its boxes, whatever follows
-- them
unfoldable pub exif_numbers : List ℕ → Result (List ℕ) Refusal
exif_numbers body = do
  version ← version_at body
  count ← number_at (if version.0 == 0 then 2 else 4) version.1
  read_each ItemInfoEntry exif_number (boxes count.0 count.1)
