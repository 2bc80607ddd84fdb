-- The day and the time in a date (ISO 8601-1, 5.4.2.1).
use Rattle.std.specs.Prelude.{ℕ, ◌==◌, ◌&&◌, Bool, true, false, nat_lt, if◌then◌else◌, List, [], ◌∷◌, Option, Some, None, take, slice_range, codes}
use Rattle.std.specs.Char.{is_ascii_digit}

-- a byte fits a form: a digit where the form has `0` (48), else the byte of the form
abbrev pub fits_byte : ℕ → ℕ → Bool
fits_byte form byte = if form == 48 then is_ascii_digit byte else form == byte

-- a character ends before a text: a byte of ASCII is next, or none
abbrev pub ends_character : List ℕ → Bool
ends_character [] = true
ends_character (byte ∷ text) = nat_lt byte 128

-- a text begins as a form says, and a character ends there
abbrev pub fits : List ℕ → List ℕ → Bool
fits [] text = ends_character text
fits (form ∷ forms) [] = false
fits (form ∷ forms) (byte ∷ text) = fits_byte form byte && fits forms text

-- the form of a date, to the second
abbrev pub form : List ℕ
form = codes "0000-00-00T00:00:00"

-- a date, which more may follow: a fraction, an offset from UTC
abbrev pub is_date : List ℕ → Bool
is_date text = fits form text

-- its day
abbrev pub day_of : List ℕ → Option (List ℕ)
day_of text = if is_date text then Some (take 10 text) else None

-- its time, to the second
abbrev pub time_of : List ℕ → Option (List ℕ)
time_of text = if is_date text then Some (slice_range text 11 19) else None
