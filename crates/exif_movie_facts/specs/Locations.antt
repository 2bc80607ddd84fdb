-- Locations as texts (ISO 6709:2008, Annex H), and in the box `loci` (3GPP TS 26.244, clause 8).
use Rattle.std.specs.Prelude.{ℕ, suc, ◌+◌, ◌-◌, ◌*◌, ◌/◌, ◌%◌, List, [], ◌∷◌, length, take, drop, slice_index, nat_le, nat_lt, Bool, true, false, ◌||◌, ◌==◌, Option, Some, None, if◌then◌else◌}
use Rattle.exif_movie_facts.specs.Numbers.{u32_of}
use Rattle.exif_movie_facts.specs.Digits.{appended}
use Rattle.exif_movie_facts.specs.Tokens.{fraction_of, token_of, whole_of}
use Rattle.exif_movie_facts.specs.declared.digits.Count.{Count}
use Rattle.exif_movie_facts.specs.declared.location.Location.{Location}
use Rattle.exif_movie_facts.specs.declared.location.Fraction.{Fraction}
use Rattle.exif_movie_facts.specs.declared.token.Token.{Token}

-- what follows, if there is something
abbrev pub and_then : {S T : Type 0} → Option S → (S → Option T) → Option T
and_then None next = None
and_then (Some s) next = next s

-- the digits of degrees and minutes, in minutes
abbrev pub minutes : ℕ → Option Count
minutes n =
    if nat_lt 59 (n % 100) then None else
    Some (record { value = n / 100 * 60 + n % 100; scale = 60 })

-- the digits of degrees, minutes and seconds, in seconds
abbrev pub seconds : ℕ → Option Count
seconds n =
    if nat_lt 59 (n % 100) || nat_lt 59 (n / 100 % 100) then None else
    Some (record { value = n / 10000 * 3600 + n / 100 % 100 * 60 + n % 100; scale = 3600 })

-- the angle of digits before the point: degrees have `width` digits, two more are minutes, and two
-- more seconds
abbrev pub units : ℕ → ℕ → ℕ → Option Count
units width digits n =
    if nat_le 100000000 n then None else
    if digits == width then Some (record { value = n; scale = 1 }) else
    if digits == width + 2 then minutes n else
    if digits == width + 4 then seconds n else None

abbrev pub count_value : Option Count → Option ℕ
count_value None = None
count_value (Some count) = Some count.value

-- the number of the digits before the point
abbrev pub value_of : List ℕ → Option ℕ
value_of digits = count_value (appended 0 1 digits)

-- the largest angle, where `scale` units are a degree: 90 degrees for a latitude, which has two
-- digits of degrees, and 180 for a longitude
abbrev pub largest : ℕ → ℕ → ℕ
largest width scale = if width == 2 then 90 * scale else 180 * scale

-- an angle, if it is in range
abbrev pub checked : ℕ → Bool → Count → Option Fraction
checked width negative count =
    if nat_lt (largest width count.scale) count.value then None else
    Some (record { negative = negative; numerator = count.value; denominator = count.scale })

-- the angle of a number in a text
abbrev pub angle : ℕ → Token → List ℕ → Option Fraction
angle width token bytes =
    and_then (value_of (whole_of token bytes)) (λ whole.
    and_then (units width token.whole_len whole) (λ start.
    and_then (appended start.value start.scale (fraction_of token bytes)) (λ count.
    checked width token.negative count)))

-- an altitude
abbrev pub metres : Bool → Count → Option Fraction
metres negative count =
    Some (record { negative = negative; numerator = count.value; denominator = count.scale })

-- the altitude of a number in a text
abbrev pub metres_of : Token → List ℕ → Option Fraction
metres_of token bytes =
    and_then (value_of (whole_of token bytes)) (λ whole.
    and_then (appended whole 1 (fraction_of token bytes)) (λ count.
    metres token.negative count))

-- the altitude that a text begins with, if it begins with one
abbrev pub altitude : List ℕ → Option Fraction
altitude bytes = and_then (token_of bytes) (λ found. metres_of found bytes)

abbrev pub located : Fraction → List ℕ → Fraction → Option Location
located latitude rest longitude =
    Some (record { latitude = latitude; longitude = longitude; altitude = altitude rest })

-- a location with this latitude and the longitude that a text begins with
abbrev pub with_latitude : Fraction → List ℕ → Option Location
with_latitude latitude bytes =
    and_then (token_of bytes) (λ found.
    and_then (angle 3 found bytes) (λ longitude.
    located latitude (drop found.end bytes) longitude))

-- the location that a text states
abbrev pub iso6709_location : List ℕ → Option Location
iso6709_location bytes =
    and_then (token_of bytes) (λ found.
    and_then (angle 2 found bytes) (λ latitude.
    with_latitude latitude (drop found.end bytes)))

-- a fixed-point number, of which two bytes are after the point, in two's complement
abbrev pub complement : ℕ → Fraction
complement n =
    if nat_le 2147483648 n
    then record { negative = true; numerator = 4294967296 - n; denominator = 65536 }
    else record { negative = false; numerator = n; denominator = 65536 }

abbrev pub fixed : List ℕ → Fraction
fixed bytes = complement (u32_of bytes)

-- how many bytes there are before the first zero
abbrev pub name_len : List ℕ → ℕ
name_len [] = 0
name_len (b ∷ bytes) = if b == 0 then 0 else suc (name_len bytes)

-- the location after a name: a zero and a role, and then longitude, latitude and altitude
unfoldable pub after_name : List ℕ → Option Location
after_name bytes =
    if nat_lt (length bytes) 14 then None else Some (record {
      latitude = fixed (drop 6 bytes);
      longitude = fixed (drop 2 bytes);
      altitude = Some (fixed (drop 10 bytes));
    })

-- the location in the content of a box: behind version, flags and language, unless the name begins
-- with the byte order mark of UTF-16
abbrev pub loci_location : List ℕ → Option Location
loci_location content =
    if nat_lt (length content) 7 || (slice_index content 6 == 0xfe) then None else
    after_name (drop (name_len (drop 6 content)) (drop 6 content))
