-- What becomes of a picture in which values are set, by its format.
use Rattle.std.specs.Prelude.{ℕ, List, codes, Option, Some, None, Result, Err}
use Rattle.std.specs.List.{list_any}
use Rattle.exif_assign.specs.declared.assignment.Assignment.{Assignment}
use Rattle.exif_datetime.specs.declared.shift.ClockShift.{ClockShift}
use Rattle.exif_formats.specs.declared.format.PictureFormat.{PictureFormat}
use Rattle.exif_formats.specs.declared.format.PictureFormat.TheVariants as format
use Rattle.exif_types.specs.Refusals.{not_supported}
use Rattle.exif_types.specs.declared.field.Field.{Field}
use Rattle.exif_change.specs.Changed.{Change}
use Rattle.exif_change.specs.Refusals.{Reason, reading}
use Rattle.exif_setting.specs.declared.dates.Dates.{Dates}
use Rattle.exif_change.specs.Codestreams.{codestream_of}
use Rattle.exif_setting.specs.OtherDates.{assigns_date, has_other_dates, is_date_field, leaves_dates, with_other_dates}
use Rattle.exif_setting.specs.Contained.{data_changed, edited_in}
use Rattle.exif_setting.specs.Edits.{Edit, the_values, the_fields, the_shift}
use Rattle.exif_setting.specs.declared.contained.Container.TheVariants as container
use Rattle.exif_change.specs.Pictures.{by_codestream, format_of}

-- nothing is set in raw files
abbrev pub raw_refused : Reason
raw_refused = reading (not_supported (codes "raw files are not changed; use an XMP sidecar"))

-- a JPEG XL file with its Exif data changed, if it has a codestream
abbrev pub jxl_edited : Edit → List ℕ → Result Change Reason
jxl_edited edit file = by_codestream (codestream_of file) (edited_in container.Jxl edit file)

-- a file with its Exif data changed
abbrev pub edited_by : Option PictureFormat → Edit → List ℕ → Result Change Reason
edited_by None edit file = data_changed edit file
edited_by (Some (format.Container known)) edit file = data_changed edit file
edited_by (Some format.Png) edit file = edited_in container.Png edit file
edited_by (Some format.JpegXl) edit file = jxl_edited edit file
edited_by (Some raw) edit file = Err raw_refused

-- a file with values set; where dates are, those that it may have beside its Exif data stay
abbrev pub picture_set : List Assignment → List ℕ → Result Change Reason
picture_set assignments file =
    with_other_dates (leaves_dates (list_any assigns_date assignments) file)
    (edited_by (format_of file) (the_values assignments) file)

-- a file with fields set, likewise
abbrev pub picture_fields_set : List Field → List ℕ → Result Change Reason
picture_fields_set all file =
    with_other_dates (leaves_dates (list_any is_date_field all) file)
    (edited_by (format_of file) (the_fields all) file)

-- a file with its dates moved; those that it may have beside its Exif data stay
abbrev pub picture_shifted : ClockShift → Dates → List ℕ → Result Change Reason
picture_shifted by dates file =
    with_other_dates (has_other_dates file) (edited_by (format_of file) (the_shift by dates) file)
