-- Dates with their time of day (Exif 2.32, section 4.6.4, DateTime, and section 4.6.5).
use Rattle.std.specs.Prelude.{ℕ, List, Option, None, Some, Result, Ok, Err, ℤ}
use Rattle.exif_text.specs.declared.date.Date.{Date}
use Rattle.exif_text.specs.declared.date.TimeOfDay.{TimeOfDay}
use Rattle.exif_text.specs.declared.date_fault.DateFault.{DateFault}
use Rattle.exif_text.specs.declared.date_fault.DateFault.TheVariants.{BlankDate, BlankOffset}
use Rattle.exif_text.specs.Dates.{datetime_text, parse_datetime, parse_offset}
use Rattle.exif_text.specs.Faults.{message_of}
use Rattle.exif_text.specs.Subsec.{parse_subsec}
use Rattle.exif_types.specs.Refusals.{Refusal, blank_value, invalid_format}
use Rattle.exif_datetime.specs.declared.datetime.DateTime.{DateTime}

-- the refusal that a fault is: blank where there are only spaces, and colons at their offsets
abbrev pub refusal_for : DateFault → Refusal
refusal_for BlankDate = blank_value (message_of BlankDate)
refusal_for BlankOffset = blank_value (message_of BlankOffset)
refusal_for fault = invalid_format (message_of fault)

-- what was read, or the refusal
abbrev pub or_refusal : {A B : Type 0} → (A → B) → Result A DateFault → Result B Refusal
or_refusal f (Ok x) = Ok (f x)
or_refusal f (Err fault) = Err (refusal_for fault)

-- a date and a time of day, of which no more is known
abbrev pub date_of : Date × TimeOfDay → DateTime
date_of (date, time) = record {
  year = date.year;
  month = date.month;
  day = date.day;
  hour = time.hour;
  minute = time.minute;
  second = time.second;
  nanosecond = None;
  offset = None;
}

-- the date alone
abbrev pub calendar_date : DateTime → Date
calendar_date d = record { year = d.year; month = d.month; day = d.day }

-- the time of day alone
abbrev pub time_of_day : DateTime → TimeOfDay
time_of_day d = record { hour = d.hour; minute = d.minute; second = d.second }

-- the date of `2016:05:04 03:02:01`, or the refusal
abbrev pub read_date : List ℕ → Result DateTime Refusal
read_date bytes = or_refusal date_of (parse_datetime bytes)

-- the nanoseconds of up to nine digits before a space, or the refusal
abbrev pub read_subsec : List ℕ → Result (Option ℕ) Refusal
read_subsec bytes = or_refusal (λ n. n) (parse_subsec bytes)

-- the minutes of `+hh:mm` or `-hh:mm`, or the refusal
abbrev pub read_offset : List ℕ → Result ℤ Refusal
read_offset bytes = or_refusal (λ n. n) (parse_offset bytes)

-- whether it was read, without what was read
abbrev pub was_read : {A : Type 0} → Result A Refusal → Result (Unit {0}) Refusal
was_read (Ok x) = Ok tt
was_read (Err r) = Err r

-- the date with the nanoseconds that were read, or as it was
abbrev pub with_subsec : DateTime → Result (Option ℕ) Refusal → DateTime
with_subsec d (Ok nanosecond) = record d { nanosecond = nanosecond }
with_subsec d (Err r) = d

-- the date with the offset that was read, or as it was
abbrev pub with_offset : DateTime → Result ℤ Refusal → DateTime
with_offset d (Ok minutes) = record d { offset = Some minutes }
with_offset d (Err r) = d

-- `2016-05-04 03:02:01`
abbrev pub date_text : DateTime → List ℕ
date_text d = datetime_text (calendar_date d) (time_of_day d)
