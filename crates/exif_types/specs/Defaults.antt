-- What stands for the value of an absent tag (Exif 2.32, section 4.6, "Default").
use Rattle.std.specs.Prelude.{[], ◌∷◌, Option, Some, None}
use Rattle.exif_table.specs.Table as T
use Rattle.exif_table.specs.Table.{Default, TagRow}
use Rattle.exif_types.specs.declared.tag.Tag.{Tag}
use Rattle.exif_types.specs.declared.value.Value.{Value}
use Rattle.exif_types.specs.declared.value.Value.TheVariants as value
use Rattle.exif_types.specs.TagRows.{row_of_tag}

-- a default of the table as a value; undefined bytes are at offset 0
abbrev pub default_as : Default → Option Value
default_as T.NoDefault = None
default_as (T.Bytes ns) = Some (value.Byte ns)
default_as (T.OneText text) = Some (value.Ascii (text ∷ []))
default_as (T.Shorts ns) = Some (value.Short ns)
default_as (T.OneFraction num denom) =
    Some (value.Rational (record { num = num; denom = denom } ∷ []))
default_as (T.Undefineds bytes) = Some (value.Undefined bytes 0)
default_as T.ContextDependent = None
default_as T.Unspecified = None

-- the default in a row, if there is a row
abbrev pub default_in : Option TagRow → Option Value
default_in (Some row) = default_as row.default
default_in None = None

-- the default of a tag, if it has one
abbrev pub default_of : Tag → Option Value
default_of tag = default_in (row_of_tag tag)
