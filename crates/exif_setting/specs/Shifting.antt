-- What the program shifts: the dates of a file.
use Rattle.std.specs.Prelude.{ℕ, Bool, true, false, List, [], ◌∷◌, ◌++◌, Option, Some, None, Result, Ok, Err, if◌then◌else◌}
use Rattle.exif_table.specs.declared.context.Context.TheVariants.{Tiff, Exif}
use Rattle.exif_types.specs.Lookup.{last_named}
use Rattle.exif_types.specs.declared.field.Field.{Field}
use Rattle.exif_types.specs.declared.tag.Tag.{Tag}
use Rattle.exif_types.specs.declared.value.Value.{Value}
use Rattle.exif_edit_base.specs.Causes.{Cause}
use Rattle.exif_datetime.specs.Shift.{moved_value}
use Rattle.exif_datetime.specs.declared.shift.ClockShift.{ClockShift}
use Rattle.exif_datetime.specs.declared.shift.Unmoved.{Unmoved}
use Rattle.exif_change.specs.Changed.{Change, Undone, unmoved, unset, whole}
use Rattle.exif_setting.specs.InPlace.{field_set}
use Rattle.exif_change.specs.Reading.{file_contents, primary}
use Rattle.exif_change.specs.Refusals.{Reason, as_read, no_date, ◌>>=◌}
use Rattle.exif_setting.specs.declared.dates.Dates.{Dates}
use Rattle.exif_setting.specs.declared.dates.Dates.TheVariants as dates

-- the tags of the dates that are moved (Exif 2.32, 4.6.4 D and 4.6.5 F)
abbrev pub tags_of : Dates → List Tag
tags_of dates.All = (Tiff, 0x132) ∷ (Exif, 0x9003) ∷ (Exif, 0x9004) ∷ []
tags_of dates.Exif = (Exif, 0x9003) ∷ (Exif, 0x9004) ∷ []

-- a date of the primary image
abbrev pub date : Tag → Value → Field
date tag value = record { tag = tag; ifd_num = primary; value = value }

-- a file, and one more thing that was left undone in it
abbrev pub leaving : Undone → Change → Change
leaving undone change =
    record { file = change.file; undone = change.undone ++ Some undone ∷ [] }

-- a file in which a date was set in place, or not
abbrev pub date_set : Tag → Result (List ℕ) Cause → Change → Change
date_set tag (Ok new) change = record { file = new; undone = change.undone }
date_set tag (Err cause) change = leaving (unset tag cause) change

-- a file in which a date is set that was moved, unless it was not
abbrev pub date_moved : Tag → Result Value Unmoved → Change → Change
date_moved tag (Ok value) change = date_set tag (field_set (date tag value) change.file) change
date_moved tag (Err why) change = leaving (unmoved tag why) change

-- a file in which the date of a tag is moved, if there is one
abbrev pub tag_moved : ClockShift → Tag → Option Field → Change → Change
tag_moved by tag (Some field) change = date_moved tag (moved_value by field.value) change
tag_moved by tag None change = change

-- so for each tag in order, by the fields that the old file had
abbrev pub tags_moved : ClockShift → List Field → List Tag → Change → Change
tags_moved by fields [] change = change
tags_moved by fields (tag ∷ tags) change =
    tags_moved by fields tags (tag_moved by tag (last_named fields tag primary) change)

-- whether a file has a date
abbrev pub has_date : List Field → Tag → Bool
has_date fields tag = elim (last_named fields tag primary) [ Some field ↦ true | None ↦ false ]

-- whether it has one of them
abbrev pub has_dates : List Field → List Tag → Bool
has_dates fields [] = false
has_dates fields (tag ∷ tags) = if has_date fields tag then true else has_dates fields tags

-- a file with its dates moved
abbrev pub dates_moved : ClockShift → Dates → List Field → List ℕ → Result Change Reason
dates_moved by dates fields file =
    if has_dates fields (tags_of dates) then Ok (tags_moved by fields (tags_of dates) (whole file))
    else Err no_date

-- the same of a file by what is read of it
abbrev pub shifted : ClockShift → Dates → List ℕ → Result Change Reason
shifted by dates file =
    as_read (file_contents file) >>= λ contents. dates_moved by dates contents.fields file
