-- Dates as numbers that can be compared, and the dates of users (ISO 8601-1, 5.4).
use Rattle.std.specs.Prelude.{ℕ, ◌+◌, ◌*◌, ◌-◌, ◌==◌, ◌&&◌, ◌||◌, nat_lt, nat_le, Bool, true, if◌then◌else◌, List, [], ◌∷◌, length, drop, Option, Some, None}
use Rattle.std.specs.Option.{option_and_then}

-- the digits of a date, from the year to the second, as a number
abbrev pub stamp : ℕ → ℕ → ℕ → ℕ → ℕ → ℕ → ℕ
stamp year month day hour minute second =
    (year * 10000 + month * 100 + day) * 1000000 + (hour * 10000 + minute * 100 + second)

-- what a digit stands for
abbrev pub digit : ℕ → Option ℕ
digit byte = if nat_le 48 byte && nat_le byte 57 then Some (byte - 48) else None

-- the number of the two digits at the front, or another where there is no text
abbrev pub front_two : ℕ → List ℕ → Option ℕ
front_two otherwise (tens ∷ (ones ∷ rest)) =
    option_and_then (λ t. option_and_then (λ o. Some (t * 10 + o)) (digit ones)) (digit tens)
front_two otherwise _ = Some otherwise

-- the number of two digits at a place, or another where the text ends before it
abbrev pub two : List ℕ → ℕ → ℕ → Option ℕ
two text at otherwise = front_two otherwise (drop at text)

-- whether a text begins with a mark, if there is one
abbrev pub front_mark : ℕ → List ℕ → Bool
front_mark mark [] = true
front_mark mark (byte ∷ rest) = byte == mark

-- whether a text has a mark at a place, or ends before it
abbrev pub has_mark : List ℕ → ℕ → ℕ → Bool
has_mark text at mark = front_mark mark (drop at text)

-- whether a date of this length ends with its year, month, day, minute or second
abbrev pub is_begin_len : ℕ → Bool
is_begin_len len = (len == 4) || ((len == 7) || ((len == 10) || ((len == 16) || (len == 19))))

-- whether a text has the marks of a date
abbrev pub is_date : List ℕ → Bool
is_date text =
    is_begin_len (length text) && (has_mark text 4 45 && (has_mark text 7 45
    && (has_mark text 10 84 && (has_mark text 13 58 && has_mark text 16 58))))

-- whether a month is one, and a day one of a month
abbrev pub is_day : ℕ → ℕ → Bool
is_day month day = (nat_lt 0 month && nat_le month 12) && (nat_lt 0 day && nat_le day 31)

-- whether a time is one of a day, which may be a leap second
abbrev pub is_time : ℕ → ℕ → ℕ → Bool
is_time hour minute second = nat_le hour 23 && (nat_le minute 59 && nat_le second 60)

-- a date, if there may be such a one
abbrev pub checked : ℕ → ℕ → ℕ → ℕ → ℕ → ℕ → Option ℕ
checked year month day hour minute second =
    if is_day month day && is_time hour minute second
    then Some (stamp year month day hour minute second) else None

-- when the time begins that a text names: its parts are the first of theirs where it has none
abbrev pub begin_in : List ℕ → Option ℕ
begin_in text =
    option_and_then (λ century. option_and_then (λ year. option_and_then (λ month.
    option_and_then (λ day. option_and_then (λ hour. option_and_then (λ minute.
    option_and_then (λ second. checked (century * 100 + year) month day hour minute second)
    (two text 17 0)) (two text 14 0)) (two text 11 0)) (two text 8 1)) (two text 5 1))
    (two text 2 0)) (two text 0 0)

-- the same of a text of a form that dates have
abbrev pub begin_of : List ℕ → Option ℕ
begin_of text = if is_date text then begin_in text else None
