-- Fractions of a second (Exif 2.32, section 4.6.5, SubSecTime).
use Rattle.std.specs.Prelude.{ℕ, ◌-◌, ◌==◌, not, if◌then◌else◌, List, [], ◌∷◌, ◌++◌, length, replicate, take, Option, Some, None, Result, Ok, Err}
use Rattle.std.specs.List.{list_all, take_while}
use Rattle.std.specs.Char.{is_ascii_digit}
use Rattle.std.specs.Str.Parse.{digits_value}
use Rattle.exif_text.specs.declared.date_fault.DateFault.{DateFault}
use Rattle.exif_text.specs.declared.date_fault.DateFault.TheVariants.{NotANumber}

-- the bytes that count: up to nine, before the first space
abbrev pub subsec_bytes : List ℕ → List ℕ
subsec_bytes bytes = take_while (λ b. not (b == 32)) (take 9 bytes)

-- the number that digits spell with zeros behind them up to nine
abbrev pub nanoseconds : List ℕ → ℕ
nanoseconds digits = digits_value 10 (digits ++ replicate (9 - length digits) 48)

-- none where there are no digits
abbrev pub nanoseconds_of : List ℕ → Option ℕ
nanoseconds_of [] = None
nanoseconds_of (d ∷ ds) = Some (nanoseconds (d ∷ ds))

-- the nanoseconds, where all bytes that count are digits
unfoldable pub parse_subsec : List ℕ → Result (Option ℕ) DateFault
parse_subsec bytes =
    if list_all is_ascii_digit (subsec_bytes bytes) then Ok (nanoseconds_of (subsec_bytes bytes))
    else Err NotANumber
