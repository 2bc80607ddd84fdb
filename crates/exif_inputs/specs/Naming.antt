-- The new name of a picture, by what its fields say.
use Rattle.std.specs.Prelude.{ℕ, if◌then◌else◌, List, Option, Some, None, option_and_then, option_map, Result, Ok, Err, string_bytes}
use Rattle.std.specs.Str.{is_utf8}
use Rattle.exif_table.specs.declared.context.Context.TheVariants.{Tiff}
use Rattle.exif_text.specs.Subsec.{parse_subsec}
use Rattle.exif_text.specs.declared.date_fault.DateFault.{DateFault}
use Rattle.exif_types.specs.declared.field.Field.{Field}
use Rattle.exif_datetime.specs.declared.datetime.DateTime.{DateTime}
use Rattle.exif_summary.specs.Dates as dates
use Rattle.exif_summary.specs.Finding.{text_found}
use Rattle.exif_summary.specs.declared.dates.Moment as tags
use Rattle.exif_rename.specs.Dates.{date_by}
use Rattle.exif_rename.specs.Naming.{Known, named}
use Rattle.exif_rename.specs.declared.dates.DateTag.{DateTag}
use Rattle.exif_rename.specs.declared.naming.Missing.{Missing}
use Rattle.exif_rename.specs.declared.naming.Missing.TheVariants as missing
use Rattle.exif_rename.specs.declared.naming.Taken.{Taken}
use Rattle.exif_rename.specs.declared.order.Moment.{Moment}
use Rattle.exif_rename.specs.declared.pattern.Part.{Part}
use Rattle.exif_decisions.specs.Paths.{name_of}
use Rattle.exif_decisions.specs.Rules.{is_own}
use Rattle.exif_inputs.specs.declared.naming.NewName.{NewName}

-- a date without its offset from UTC: names have the camera's time
abbrev pub taken_of : DateTime → Taken
taken_of d = record {
  year = d.year;
  month = d.month;
  day = d.day;
  hour = d.hour;
  minute = d.minute;
  second = d.second;
}

-- the nanoseconds of a fraction of a second, 0 where there is none that can be read
abbrev pub nanosecond_of : Result (Option ℕ) DateFault → ℕ
nanosecond_of (Ok (Some number)) = number
nanosecond_of (Ok None) = 0
nanosecond_of (Err fault) = 0

abbrev pub nanosecond_in : Option (List ℕ) → ℕ
nanosecond_in None = 0
nanosecond_in (Some text) = nanosecond_of (parse_subsec text)

-- a date of a picture, by the tags of a moment
abbrev pub moment_by : List Field → tags.Moment → Option Moment
moment_by fields which =
    option_map (λ date. record {
      taken = taken_of date;
      nanosecond = nanosecond_in (dates.text_of fields which.fraction);
    }) (dates.date_of fields which)

-- the date that gives a picture its name
abbrev pub moment_in : List Field → Option DateTag → Option Moment
moment_in fields choice =
    date_by choice (record {
      original = moment_by fields dates.taken;
      digitized = moment_by fields dates.digitized;
      changed = moment_by fields dates.changed;
    })

-- bytes that are a text (RFC 3629)
abbrev pub if_utf8 : List ℕ → Option (List ℕ)
if_utf8 bytes = if is_utf8 bytes then Some bytes else None

-- what is known of a picture: when it was taken, the make and the model of the camera, as far as
-- they are texts, and its old name
abbrev pub known_in : List Field → Option Moment → List ℕ → Known
known_in fields moment stem = record {
  taken = option_map (λ m. m.taken) moment;
  make = option_and_then if_utf8 (text_found fields Tiff 271);
  model = option_and_then if_utf8 (text_found fields Tiff 272);
  name = stem;
}

-- a name and its date, unless it is one that the program gives files of its own
abbrev pub settled : Option Moment → Result (List ℕ) Missing
    → Result (List ℕ × Option Moment) Missing
settled moment (Ok name) =
    if is_own (name_of name) then Err missing.Name else Ok (name, moment)
settled moment (Err lacks) = Err lacks

-- the new name of a picture with these fields by the parts of a pattern, or what it lacks
abbrev pub name_by : List Part → Option DateTag → List Field → List ℕ
    → Result (List ℕ × Option Moment) Missing
name_by parts choice fields stem =
    settled (moment_in fields choice) (named parts (known_in fields (moment_in fields choice) stem))

abbrev pub new_name_of : NewName → List ℕ × Option Moment
new_name_of new = (string_bytes new.name, new.moment)
