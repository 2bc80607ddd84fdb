-- What the flags of a command line choose.
use Rattle.std.specs.Prelude.{ℕ, Bool, if◌then◌else◌, List, Option, Some, None, Result, Ok, Err}
use Rattle.exif_setting.specs.declared.dates.Dates.{Dates}
use Rattle.exif_setting.specs.declared.dates.Dates.TheVariants as dates
use Rattle.exif_columns.specs.declared.cells.Form as cells
use Rattle.exif_columns.specs.declared.cells.Form.TheVariants.{Display, Raw}
use Rattle.exif_columns.specs.declared.rows.Separator.{Separator}
use Rattle.exif_columns.specs.declared.rows.Separator.TheVariants.{Comma, Tab}
use Rattle.exif_rename.specs.Dates.{tag_named}
use Rattle.exif_rename.specs.declared.dates.DateTag.{DateTag}
use Rattle.exif_session.specs.declared.flags.UnknownDate.{UnknownDate}
use Rattle.exif_session.specs.declared.request.Form.{Form}
use Rattle.exif_session.specs.declared.request.Form.TheVariants.{Lines, Json}

-- which dates are moved: all, or those of the Exif directory only
abbrev pub dates_by : Bool → Dates
dates_by exif_only = if exif_only then dates.Exif else dates.All

-- how the cells of a table are written
abbrev pub cells_by : Bool → cells.Form
cells_by raw = if raw then Raw else Display

-- what is between the cells of a table
abbrev pub separator_by : Bool → Separator
separator_by tabs = if tabs then Tab else Comma

-- how an answer is written
abbrev pub form_by : Bool → Form
form_by json = if json then Json else Lines

-- the date of a name, if it is one
abbrev pub tag_or_unknown : Option DateTag → Result (Option DateTag) UnknownDate
tag_or_unknown (Some tag) = Ok (Some tag)
tag_or_unknown None = Err (record {})

-- the date that gives new names, if one is named
abbrev pub date_tag_by : Option (List ℕ) → Result (Option DateTag) UnknownDate
date_tag_by None = Ok None
date_tag_by (Some name) = tag_or_unknown (tag_named name)
