-- Copied data that describe the picture into which they are put: its orientation (Exif 2.32,
-- 4.6.4 A) and its size in pixels (4.6.4 A, 4.6.5 C).
use Rattle.std.specs.Prelude.{ℕ, ◌&&◌, nat_lt, nat_le, if◌then◌else◌, List, [], ◌∷◌, Option, None, Some, Result, Ok}
use Rattle.std.specs.Option.{option_and_then}
use Rattle.exif_table.specs.declared.context.Context.TheVariants as context
use Rattle.exif_types.specs.Lookup.{last_named}
use Rattle.exif_types.specs.Numbers.{number_in}
use Rattle.exif_types.specs.declared.field.Field.{Field}
use Rattle.exif_types.specs.declared.tag.Tag.{Tag}
use Rattle.exif_types.specs.declared.value.Value.{Value}
use Rattle.exif_types.specs.declared.value.Value.TheVariants.{Short, Long}
use Rattle.exif_edit_base.specs.Causes.{Cause, ◌>>=◌}
use Rattle.exif_edit_base.specs.EntryLimit.{within_limit}
use Rattle.exif_edit.specs.Removing.{field_answer}
use Rattle.exif_grow.specs.Fields.{fields_grown}
use Rattle.exif_change.specs.Reading.{entry_limit, primary}

-- the number that a picture with these fields tells by one of them
abbrev pub number_told : List Field → Tag → Option ℕ
number_told fields tag =
    option_and_then (λ field. number_in field.value 0) (last_named fields tag primary)

-- ---- what the fields of the picture say

-- an orientation that the standard has, or upright
abbrev pub upright_unless : Option ℕ → ℕ
upright_unless (Some number) = if nat_lt 0 number && nat_le number 8 then number else 1
upright_unless None = 1

-- the orientation of a picture
abbrev pub orientation : Tag
orientation = (context.Tiff, 0x112)

abbrev pub orientation_for : List Field → Value
orientation_for own = Short (upright_unless (number_told own orientation) ∷ [])

-- the value of a size in pixels
abbrev pub size_for : Option ℕ → Option Value
size_for (Some number) = Some (Long (number ∷ []))
size_for None = None

-- ---- data that say the same

-- data with this value in each field of a name of the primary image, or without these fields
abbrev pub with_value : Tag → Option Value → List ℕ → Result (List ℕ) Cause
with_value tag (Some value) bytes =
    fields_grown (record { tag = tag; ifd_num = primary; value = value } ∷ []) bytes
with_value tag None bytes = field_answer bytes tag primary

-- the same of data with these fields, where one has the name
abbrev pub fitted : List Field → Tag → Option Value → List ℕ → Result (List ℕ) Cause
fitted fields tag value bytes = elim (last_named fields tag primary) [
  | Some field ↦ with_value tag value bytes
  | None ↦ Ok bytes
]

-- data with a size that another picture tells by its own fields
abbrev pub with_size : List Field → List Field → Tag → List ℕ → Result (List ℕ) Cause
with_size fields own tag bytes = fitted fields tag (size_for (number_told own tag)) bytes

-- data with its orientation and its size: PixelXDimension, PixelYDimension, ImageWidth, ImageLength
abbrev pub with_shape : List Field → List Field → List ℕ → Result (List ℕ) Cause
with_shape fields own bytes =
    within_limit entry_limit bytes
    >>= (λ u. fitted fields orientation (Some (orientation_for own)) bytes)
    >>= with_size fields own (context.Exif, 0xa002)
    >>= with_size fields own (context.Exif, 0xa003)
    >>= with_size fields own (context.Tiff, 0x100)
    >>= with_size fields own (context.Tiff, 0x101)
