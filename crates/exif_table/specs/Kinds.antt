-- The text of a value by the kind of its tag (Exif 2.32, section 4.6).
use Rattle.std.specs.Prelude.{ℕ, List, codes, Option, Some, None, Result, Ok, Err}
use Rattle.exif_table.specs.declared.kind.TextKind.{TextKind}
use Rattle.exif_table.specs.declared.kind.TextKind.TheVariants as K
use Rattle.exif_table.specs.Fixed as F
use Rattle.exif_table.specs.Fixed.{fixed_texts_of}
use Rattle.exif_text.specs.declared.date.Date.{Date}
use Rattle.exif_text.specs.declared.date.TimeOfDay.{TimeOfDay}
use Rattle.exif_text.specs.declared.date_fault.DateFault.{DateFault}
use Rattle.exif_text.specs.declared.date_fault.DateFault.TheVariants.{BlankDate}
use Rattle.exif_text.specs.Contents.{Plain, first_text}
use Rattle.exif_text.specs.Plain.{plain_text}
use Rattle.exif_table.specs.Numbers.{area_text, counts_text, focal_length_text, sampling_text}
use Rattle.exif_table.specs.Flash.{flash_text}
use Rattle.exif_table.specs.Fractions.{decimals_text, degrees_text, exposure_time_text, lens_text, optional_decimal_text, subject_distance_text, time_stamp_text, zoom_ratio_text}
use Rattle.exif_table.specs.Letters.{capital_text, components_text, date_stamp_text, undefined_text}
use Rattle.exif_table.specs.Versions.{exif_version_text, gps_version_text, interop_version_text}
use Rattle.exif_text.specs.Dates.{datetime_text, parse_datetime}
use Rattle.exif_table.specs.FixedText.{fixed_text}

-- a date as it was read: a blank one is unknown
abbrev pub date_or : Result (Date × TimeOfDay) DateFault → List ℕ → List ℕ
date_or (Ok read) otherwise = datetime_text read.0 read.1
date_or (Err BlankDate) otherwise = codes "unknown"
date_or (Err fault) otherwise = otherwise

-- the date in a text, if there is a text
abbrev pub date_value_of : Option (List ℕ) → List ℕ → List ℕ
date_value_of None otherwise = otherwise
date_value_of (Some text) otherwise = date_or (parse_datetime text) otherwise

-- the date in the first text
abbrev pub date_value_text : Plain → List ℕ
date_value_text v = date_value_of (first_text v) (plain_text v)

-- the fixed text of a kind that has fixed texts
abbrev pub fixed_or_plain : Option F.Texts → Plain → List ℕ
fixed_or_plain None v = plain_text v
fixed_or_plain (Some texts) v = fixed_text texts v

-- the text of a value by the kind of its tag
abbrev pub value_text : TextKind → Plain → List ℕ
value_text K.Plain v = plain_text v
value_text K.Decimal v = decimals_text v
value_text K.OptionalDecimal v = optional_decimal_text v
value_text K.ExposureTime v = exposure_time_text v
value_text K.SubjectDistance v = subject_distance_text v
value_text K.DigitalZoomRatio v = zoom_ratio_text v
value_text K.FocalLength35mm v = focal_length_text v
value_text K.DateTime v = date_value_text v
value_text K.ExifVersion v = exif_version_text v
value_text K.InteropVersion v = interop_version_text v
value_text K.ComponentsConfiguration v = components_text v
value_text K.YCbCrSubSampling v = sampling_text v
value_text K.SubjectArea v = area_text v
value_text K.CompositeImageCounts v = counts_text v
value_text K.Flash v = flash_text v
value_text K.LensSpecification v = lens_text v
value_text K.GpsDegrees v = degrees_text v
value_text K.GpsTimeStamp v = time_stamp_text v
value_text K.GpsVersion v = gps_version_text v
value_text K.GpsLatLongRef v = capital_text v
value_text K.GpsDateStamp v = date_stamp_text v
value_text K.UndefinedText v = undefined_text v
value_text kind v = fixed_or_plain (fixed_texts_of kind) v
