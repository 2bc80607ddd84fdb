-- Texts that bytes and letters choose (Exif 2.32, sections 4.6.5 and 4.6.6).
use Rattle.std.specs.Prelude.{ℕ, ◌==◌, ◌&&◌, nat_le, if◌then◌else◌, List, [], ◌∷◌, codes, Option, Some, None, Bool, length, slice_index}
use Rattle.std.specs.List.{flat_map}
use Rattle.exif_text.specs.Contents.{Plain, Undefined, first_text, letter_in}
use Rattle.exif_text.specs.Plain.{plain_text}
use Rattle.exif_text.specs.Quoted.{quoted}
use Rattle.exif_text.specs.Clock.{date_text}
use Rattle.exif_text.specs.Dates.{date_at, has_date_digits}
use Rattle.exif_text.specs.declared.date.Date.{Date}

-- the letters of a color component
abbrev pub component : ℕ → List ℕ
component n =
    if n == 0 then codes "_"
    else (if n == 1 then codes "Y"
    else (if n == 2 then codes "Cb"
    else (if n == 3 then codes "Cr"
    else (if n == 4 then codes "R"
    else (if n == 5 then codes "G"
    else (if n == 6 then codes "B" else codes "?"))))))

-- the letters of color components, one behind the other
abbrev pub components_text : Plain → List ℕ
components_text (Undefined bytes) = flat_map component bytes
components_text v = plain_text v

-- a capital letter
abbrev pub capital_of : Option ℕ → List ℕ → List ℕ
capital_of (Some letter) otherwise =
    if nat_le 65 letter && nat_le letter 90 then letter ∷ [] else otherwise
capital_of None otherwise = otherwise

-- the capital letter in the first text
abbrev pub capital_text : Plain → List ℕ
capital_text v = capital_of (letter_in (first_text v)) (plain_text v)

-- colons and digits are as in `2016:05:04`
abbrev pub is_date : List ℕ → Bool
is_date text =
    nat_le 10 (length text)
    && (slice_index text 4 == 58 && (slice_index text 7 == 58 && has_date_digits text))

-- the date
abbrev pub date_in : List ℕ → Option Date
date_in text = if is_date text then Some (date_at text) else None

-- the text of a date, if there is one
abbrev pub date_of : Option Date → List ℕ → List ℕ
date_of None otherwise = otherwise
date_of (Some date) otherwise = date_text date

-- that of the date in a text, if there is a text
abbrev pub date_stamp_of : Option (List ℕ) → List ℕ → List ℕ
date_stamp_of None otherwise = otherwise
date_stamp_of (Some text) otherwise = date_of (date_in text) otherwise

-- the date in the first text
abbrev pub date_stamp_text : Plain → List ℕ
date_stamp_text v = date_stamp_of (first_text v) (plain_text v)

-- bytes of any meaning in quotes
abbrev pub undefined_text : Plain → List ℕ
undefined_text (Undefined bytes) = quoted bytes
undefined_text v = plain_text v
