-- Decimal numbers as billionths, and as short texts.
use Rattle.std.specs.Prelude.{ℕ, ◌+◌, ◌-◌, ◌*◌, ◌/◌, ◌%◌, ◌^◌, ◌==◌, nat_lt, Bool, ◌&&◌, if◌then◌else◌, List, [], ◌∷◌, ◌++◌, Option, Some, None, option_and_then, codes}
use Rattle.std.specs.Char.{is_ascii_digit}
use Rattle.std.specs.Fmt.{decimal}

-- n billionths and the digits of a text, of which the first counts `unit` billionths and each a
-- tenth of the one before; nothing where another byte is there
abbrev pub behind_point : ℕ → ℕ → List ℕ → Option ℕ
behind_point n unit [] = Some n
behind_point n unit (byte ∷ text) =
    if is_ascii_digit byte then behind_point (n + (byte - 48) * unit) (unit / 10) text else None

-- the whole part of a number of billionths has at most nine digits
abbrev pub has_room : ℕ → Bool
has_room n = nat_lt n (10 ^ 8)

-- n whole ones, the digits that follow and what is behind a point (46), in billionths; nothing for
-- another text, and where there is no room
abbrev pub from_whole : ℕ → List ℕ → Option ℕ
from_whole n [] = Some (n * 10 ^ 9)
from_whole n (byte ∷ text) =
    if byte == 46 then behind_point (n * 10 ^ 9) (10 ^ 8) text
    else (if is_ascii_digit byte && has_room n then from_whole (n * 10 + (byte - 48)) text
    else None)

-- a number of billionths, if it is not 0
abbrev pub not_zero : ℕ → Option ℕ
not_zero n = if n == 0 then None else Some n

-- the billionths of the text of a decimal number, cut; nothing for 0 and for another text
abbrev pub billionths_of : List ℕ → Option ℕ
billionths_of text = option_and_then not_zero (from_whole 0 text)

-- hundredths behind a point, without a zero at the end
abbrev pub hundredths_text : ℕ → List ℕ
hundredths_text n =
    if n == 0 then []
    else (if n % 10 == 0 then codes "." ++ decimal (n / 10)
    else codes "." ++ decimal (n / 10) ++ decimal (n % 10))

-- billionths as hundredths, rounded, half up
abbrev pub rounded : ℕ → ℕ
rounded n = (n + 5000000) / 10000000

-- billionths as a decimal number with at most two places
abbrev pub short_text : ℕ → List ℕ
short_text n = decimal (rounded n / 100) ++ hundredths_text (rounded n % 100)
