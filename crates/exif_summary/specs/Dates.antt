-- Dates of a picture (Exif 2.32, 4.6.4 and 4.6.5: DateTime, DateTimeOriginal, DateTimeDigitized, and
-- the tags of their offsets and fractions), as ISO 8601 writes them.
use Rattle.std.specs.Prelude.{ℕ, ℤ, unsigned_abs, ◌/◌, ◌%◌, ◌==◌, nat_lt, Bool, ◌&&◌, List, [], ◌++◌, codes, length, Option, Some, None, Result, Ok, Err, if◌then◌else◌, option_and_then}
use Rattle.std.specs.Char.{is_ascii_digit}
use Rattle.std.specs.List.{list_all}
use Rattle.std.specs.Fmt.{decimal}
use Rattle.std.specs.Int.{is_negative}
use Rattle.exif_text.specs.Clock.{date_text, time_text}
use Rattle.exif_text.specs.Plain.{zero_filled}
use Rattle.exif_text.specs.Subsec.{subsec_bytes}
use Rattle.exif_table.specs.declared.context.Context.TheVariants.{Exif, Tiff}
use Rattle.exif_datetime.specs.Calendar.{is_day}
use Rattle.exif_datetime.specs.Dates.{calendar_date, read_date, read_offset, time_of_day, with_offset}
use Rattle.exif_types.specs.Refusals.{Refusal}
use Rattle.exif_datetime.specs.declared.datetime.DateTime.{DateTime}
use Rattle.exif_types.specs.declared.field.Field.{Field}
use Rattle.exif_types.specs.declared.tag.Tag.{Tag}
use Rattle.exif_summary.specs.declared.dates.Moment.{Moment}
use Rattle.exif_summary.specs.Finding.{text_found}

-- when the picture was taken (Exif 2.32, 4.6.5: DateTimeOriginal, OffsetTimeOriginal and
-- SubSecTimeOriginal)
abbrev pub taken : Moment
taken = record {
  date = record { 0 = Exif; 1 = 36867 };
  offset = record { 0 = Exif; 1 = 36881 };
  fraction = record { 0 = Exif; 1 = 37521 };
}

-- when it was digitized (DateTimeDigitized, OffsetTimeDigitized and SubSecTimeDigitized)
abbrev pub digitized : Moment
digitized = record {
  date = record { 0 = Exif; 1 = 36868 };
  offset = record { 0 = Exif; 1 = 36882 };
  fraction = record { 0 = Exif; 1 = 37522 };
}

-- when its file was changed (4.6.4: DateTime; 4.6.5: OffsetTime and SubSecTime)
abbrev pub changed : Moment
changed = record {
  date = record { 0 = Tiff; 1 = 306 };
  offset = record { 0 = Exif; 1 = 36880 };
  fraction = record { 0 = Exif; 1 = 37520 };
}

-- the digits of a fraction of a second: the bytes that are read of its text, if all are digits
abbrev pub fraction_digits : List ℕ → List ℕ
fraction_digits text =
    if list_all is_ascii_digit (subsec_bytes text) then subsec_bytes text else []

-- so, and none where there is no text
abbrev pub fraction_in : Option (List ℕ) → List ℕ
fraction_in None = []
fraction_in (Some text) = fraction_digits text

-- the text of a tag of the first image, if it has one
abbrev pub text_of : List Field → Tag → Option (List ℕ)
text_of fields tag = text_found fields tag.0 tag.1

-- the digits of the fraction of the second of a date, as many as the file has
abbrev pub fraction_of : List Field → Moment → List ℕ
fraction_of fields moment = fraction_in (text_of fields moment.fraction)

-- `.74`, and nothing where there are no digits
abbrev pub fraction_text : List ℕ → List ℕ
fraction_text digits = if length digits == 0 then [] else codes "." ++ digits

-- `+09:00`
abbrev pub minutes_text : Bool → ℕ → List ℕ
minutes_text negative minutes =
    (if negative then codes "-" else codes "+")
    ++ (zero_filled 2 (decimal (minutes / 60)) ++ (codes ":" ++ zero_filled 2 (decimal (minutes % 60))))

-- an offset from UTC as `+09:00`, and nothing where none is known, or it is of a day and more
abbrev pub offset_text : Option ℤ → List ℕ
offset_text None = []
offset_text (Some minutes) =
    if nat_lt (unsigned_abs minutes) 1440
    then minutes_text (is_negative minutes) (unsigned_abs minutes) else []

-- `2016-05-04T03:02:01.74+09:00`, with the digits of the fraction
abbrev pub iso_text : List ℕ → DateTime → List ℕ
iso_text digits d =
    date_text (calendar_date d)
    ++ (codes "T" ++ (time_text (time_of_day d) ++ (fraction_text digits ++ offset_text d.offset)))

-- whether the calendar has a day
abbrev pub is_calendar_day : DateTime → Bool
is_calendar_day d = is_day (calendar_date d)

-- whether a day has a time (a leap second counts)
abbrev pub is_clock_time : DateTime → Bool
is_clock_time d = nat_lt d.hour 24 && (nat_lt d.minute 60 && nat_lt d.second 61)

-- a date, if it is one
abbrev pub date_in : Result DateTime Refusal → Option DateTime
date_in (Ok d) = Some d
date_in (Err r) = None

-- a date with the offset that a text spells, or as it was where none can be read
abbrev pub with_zone : Option (List ℕ) → DateTime → DateTime
with_zone None d = d
with_zone (Some text) d = with_offset d (read_offset text)

-- a date, if it is in the calendar, and its time in the day
abbrev pub existing : DateTime → Option DateTime
existing d = if is_calendar_day d && is_clock_time d then Some d else None

-- a date of a picture
abbrev pub date_of : List Field → Moment → Option DateTime
date_of fields moment =
    option_and_then (λ text. option_and_then
    (λ d. existing (with_zone (text_of fields moment.offset) d)) (date_in (read_date text)))
    (text_of fields moment.date)
