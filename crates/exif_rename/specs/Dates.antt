-- Which of its dates gives a picture its new name.
use Rattle.std.specs.Prelude.{ℕ, List, if◌then◌else◌, ◌||◌, Option, Some, None, codes}
use Rattle.std.specs.Option.{option_or}
use Rattle.std.specs.Str.{bytes_eq}
use Rattle.exif_rename.specs.declared.dates.Dates.{Dates}
use Rattle.exif_rename.specs.declared.dates.DateTag.{DateTag}
use Rattle.exif_rename.specs.declared.dates.DateTag.TheVariants.{Original, Digitized, Changed}
use Rattle.exif_rename.specs.declared.order.Moment.{Moment}

-- the date of a tag's name, as the standard or ExifTool has it
abbrev pub tag_named : List ℕ → Option DateTag
tag_named name =
    if bytes_eq name (codes "DateTimeOriginal") then Some Original
    else if bytes_eq name (codes "DateTimeDigitized") || bytes_eq name (codes "CreateDate")
    then Some Digitized
    else if bytes_eq name (codes "DateTime") || bytes_eq name (codes "ModifyDate") then Some Changed
    else None

-- the date that is chosen, or where none is, the first that is known
abbrev pub date_by : Option DateTag → Dates → Option Moment
date_by None dates = option_or dates.original (option_or dates.digitized dates.changed)
date_by (Some Original) dates = dates.original
date_by (Some Digitized) dates = dates.digitized
date_by (Some Changed) dates = dates.changed
