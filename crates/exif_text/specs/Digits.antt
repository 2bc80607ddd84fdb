-- Numbers in ASCII digits, also at positions of a text.
use Rattle.std.specs.Prelude.{ℕ, ◌+◌, ◌-◌, ◌*◌, ◌&&◌, nat_le, if◌then◌else◌, Bool, List, [], ◌∷◌, slice_index, Result, Ok, Err}
use Rattle.std.specs.List.{list_all}
use Rattle.std.specs.Char.{is_ascii_digit}
use Rattle.std.specs.Str.Parse.{digits_value}
use Rattle.exif_text.specs.declared.date_fault.DateFault.{DateFault}
use Rattle.exif_text.specs.declared.date_fault.DateFault.TheVariants.{NotANumber}

-- the number that a digit is
abbrev pub digit_in : ℕ → Result ℕ DateFault
digit_in byte = if is_ascii_digit byte then Ok (byte - 48) else Err NotANumber

-- the number that digits spell, where there are digits alone and at least one
abbrev pub number_in : List ℕ → Result ℕ DateFault
number_in [] = Err NotANumber
number_in (d ∷ ds) =
    if list_all is_ascii_digit (d ∷ ds) then Ok (digits_value 10 (d ∷ ds)) else Err NotANumber

-- the digit at a position, as a number
abbrev pub digit_at : List ℕ → ℕ → ℕ
digit_at bytes i = slice_index bytes i - 48

-- a digit is at a position
abbrev pub is_digit_at : List ℕ → ℕ → Bool
is_digit_at bytes i = nat_le 48 (slice_index bytes i) && nat_le (slice_index bytes i) 57

-- the number of the two digits from a position on
abbrev pub two_at : List ℕ → ℕ → ℕ
two_at bytes i = digit_at bytes i * 10 + digit_at bytes (i + 1)

-- two digits are from a position on
abbrev pub are_two_at : List ℕ → ℕ → Bool
are_two_at bytes i = is_digit_at bytes i && is_digit_at bytes (i + 1)
