-- Raw profiles: an empty line, a line with a name, a line with the length, and hexadecimal digits in
-- lines (ImageMagick, "Raw profile type").
use Rattle.std.specs.Prelude.{ℕ, ◌+◌, ◌-◌, ◌*◌, ◌%◌, ◌==◌, ◌&&◌, ◌||◌, nat_le, Bool, List, [], ◌∷◌, ◌++◌, Option, None, Some, if◌then◌else◌}
use Rattle.std.specs.Option.{option_map}
use Rattle.exif_packets.specs.declared.raw_profile.Digits.{Digits}

-- what follows the first line
abbrev pub behind_line : List ℕ → List ℕ
behind_line [] = []
behind_line (c ∷ cs) = if c == 10 then cs else behind_line cs

-- whether a number is between two others
abbrev pub is_between : ℕ → ℕ → ℕ → Bool
is_between least most n = nat_le least n && nat_le n most

-- the number that a hexadecimal digit is
abbrev pub digit_of : ℕ → Option ℕ
digit_of c =
    if is_between 48 57 c then Some (c - 48) else
    (if is_between 97 102 c then Some (c - 97 + 10) else
    (if is_between 65 70 c then Some (c - 65 + 10) else None))

-- the byte that two digits are
abbrev pub byte_of : ℕ → ℕ → ℕ
byte_of high low = (16 * high + low) % 256

-- the first digit of a byte that is not complete, and the bytes before it
pub record Read : Type 0 where
  pub waiting : Option ℕ
  pub bytes : List ℕ

-- those of the program
abbrev pub digits_view : Digits → Read
digits_view digits = record { waiting = digits.waiting; bytes = digits.bytes.items }

abbrev pub no_digits : Read
no_digits = record { waiting = None; bytes = [] }

-- with one digit more
abbrev pub paired : Option ℕ → ℕ → List ℕ → Read
paired None digit bytes = record { waiting = Some digit; bytes = bytes }
paired (Some high) digit bytes =
    record { waiting = None; bytes = bytes ++ byte_of high digit ∷ [] }

abbrev pub with_digit : ℕ → Read → Read
with_digit digit read = paired read.waiting digit read.bytes

-- with one character more: a digit, or the end of a line or a blank, which add nothing
abbrev pub with_character : ℕ → Read → Option Read
with_character c read =
    if (c == 10) || (c == 32) then Some read
    else option_map (λ digit. with_digit digit read) (digit_of c)

-- with all characters
abbrev pub with_characters : List ℕ → Read → Option Read
with_characters [] read = Some read
with_characters (c ∷ cs) read = elim (with_character c read) [
  | Some next ↦ with_characters cs next
  | None ↦ None
]

-- the bytes, if none is half
abbrev pub whole_bytes : Read → Option (List ℕ)
whole_bytes read = elim read.waiting [ None ↦ Some read.bytes | Some digit ↦ None ]

-- the bytes of a raw profile
abbrev pub profile_of : List ℕ → Option (List ℕ)
profile_of text = elim (with_characters (behind_line (behind_line (behind_line text))) no_digits) [
  | Some read ↦ whole_bytes read
  | None ↦ None
]
