-- When a picture was taken (Exif 2.32, 4.6.5: DateTimeOriginal, SubSecTimeOriginal and
-- OffsetTimeOriginal).
use Rattle.std.specs.Prelude.{ℕ, List, [], Option, None, Some, option_and_then}
use Rattle.exif_table.specs.declared.context.Context.TheVariants.{Exif}
use Rattle.exif_types.specs.declared.field.Field.{Field}
use Rattle.exif_summary.specs.Finding.{text_found}
use Rattle.exif_geotag.specs.Times.{exif_time_of}

-- a text, or another where there is none
abbrev pub text_or : Option (List ℕ) → List ℕ → List ℕ
text_or (Some text) other = text
text_or None other = other

-- when a picture was taken, in a zone where it names none
abbrev pub time_in : List Field → List ℕ → Option ℕ
time_in fields zone =
    option_and_then (λ date. exif_time_of date (text_or (text_found fields Exif 37521) [])
    (text_or (text_found fields Exif 36881) zone)) (text_found fields Exif 36867)
