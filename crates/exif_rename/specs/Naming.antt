-- Names that patterns make of what is known of a picture.
use Rattle.std.specs.Prelude.{ℕ, ◌-◌, ◌%◌, ◌==◌, ◌||◌, List, [], ◌∷◌, ◌++◌, Bool, if◌then◌else◌, Option, Some, None, Result, Ok, Err, codes, nat_lt, length, map, replicate}
use Rattle.std.specs.Char.{encode_utf8}
use Rattle.std.specs.Fmt.{decimal}
use Rattle.std.specs.Str.{bytes_eq, chars, encode_utf8_all, trim}
use Rattle.exif_files.specs.Names.{name_if}
use Rattle.exif_rename.specs.declared.naming.Taken.{Taken}
use Rattle.exif_rename.specs.declared.naming.Facts.{Facts}
use Rattle.exif_rename.specs.declared.naming.Missing.{Missing}
use Rattle.exif_rename.specs.declared.naming.Missing.TheVariants as missing
use Rattle.exif_rename.specs.declared.pattern.Part.{Part}
use Rattle.exif_rename.specs.declared.pattern.Part.TheVariants.{Literal, Date, Make, Model, Name}
use Rattle.exif_rename.specs.declared.pattern.DatePart.{DatePart}
use Rattle.exif_rename.specs.declared.pattern.DatePart.TheVariants.{Year, ShortYear, Month, Day, Hour, Minute, Second}

-- what is known of a picture, its texts as bytes
pub record Known : Type 0 where
  pub taken : Option Taken
  pub make : Option (List ℕ)
  pub model : Option (List ℕ)
  pub name : List ℕ

abbrev pub known_of : Facts → Known
known_of facts = record {
  taken = facts.taken;
  make = name_if facts.make;
  model = name_if facts.model;
  name = facts.name.now;
}

-- the digits of a number, so many at least
abbrev pub padded : ℕ → ℕ → List ℕ
padded width number = replicate (width - length (decimal number)) 48 ++ decimal number

-- digits of a date
abbrev pub date_text : DatePart → Taken → List ℕ
date_text Year taken = padded 4 taken.year
date_text ShortYear taken = padded 2 (taken.year % 100)
date_text Month taken = padded 2 taken.month
date_text Day taken = padded 2 taken.day
date_text Hour taken = padded 2 taken.hour
date_text Minute taken = padded 2 taken.minute
date_text Second taken = padded 2 taken.second

-- whether a character may not stand in a name everywhere: `/ \ : * ? " < > |`
abbrev pub is_reserved : ℕ → Bool
is_reserved c = (c == 47) || ((c == 92) || ((c == 58) || ((c == 42) || ((c == 63)
    || ((c == 34) || ((c == 60) || ((c == 62) || (c == 124))))))))

-- a `_` in place of a character that may not stand in a name, or controls a terminal
abbrev pub safe_char : ℕ → ℕ
safe_char c = if nat_lt c 32 || ((c == 127) || is_reserved c) then 95 else c

-- a text that is no name of a folder by itself
abbrev pub undotted : List ℕ → List ℕ
undotted text =
    if bytes_eq text (codes ".") then codes "_"
    else if bytes_eq text (codes "..") then codes "__"
    else text

-- a text that may stand in a name
abbrev pub safe : List ℕ → List ℕ
safe text = undotted (encode_utf8_all (map safe_char (chars (trim text))))

-- a safe text, if something is left
abbrev pub known_or : Missing → List ℕ → Result (List ℕ) Missing
known_or lacks [] = Err lacks
known_or lacks (byte ∷ bytes) = Ok (byte ∷ bytes)

abbrev pub known_text : Missing → Option (List ℕ) → Result (List ℕ) Missing
known_text lacks None = Err lacks
known_text lacks (Some text) = known_or lacks (safe text)

-- the digits of a date that is known
abbrev pub digits_of : DatePart → Option Taken → Result (List ℕ) Missing
digits_of digits None = Err missing.Date
digits_of digits (Some taken) = Ok (date_text digits taken)

-- the text of a part
abbrev pub part_text : Part → Known → Result (List ℕ) Missing
part_text (Literal c) known = Ok (encode_utf8 c)
part_text (Date digits) known = digits_of digits known.taken
part_text Make known = known_text missing.Make known.make
part_text Model known = known_text missing.Model known.model
part_text Name known = known_text missing.Name (Some known.name)

-- a text in front of a name
abbrev pub with_text : List ℕ → Result (List ℕ) Missing → Result (List ℕ) Missing
with_text text (Ok name) = Ok (text ++ name)
with_text text (Err lacks) = Err lacks

-- the name by a pattern's parts, or what is missing first
abbrev pub named : List Part → Known → Result (List ℕ) Missing
named [] known = Ok []
named (part ∷ parts) known =
    elim (part_text part known) [ Err lacks ↦ Err lacks | Ok text ↦ with_text text (named parts known) ]
