-- Values that texts spell.
use Rattle.std.specs.Prelude.{◌≡◌, ⊤, ℕ, ℤ, pos, neg_ℤ, ◌+◌, ◌*◌, ◌^◌, ◌==◌, ◌&&◌, ◌||◌, nat_le, nat_lt, if◌then◌else◌, Bool, true, false, List, [], ◌∷◌, ◌++◌, length, Option, Some, None, Result, Ok, Err}
use Rattle.std.specs.Option.{option_and_then, option_map}
use Rattle.exif_text.specs.declared.rational.Rational.{Rational}
use Rattle.exif_text.specs.declared.rational.SRational.{SRational}
use Rattle.exif_datetime.specs.Numbers.{cut, number_below}
use Rattle.exif_assign.specs.declared.spelled.ValueError.{ValueError}
use Rattle.exif_assign.specs.declared.spelled.ValueError.TheVariants.{NotOfItsType, OutOfRange, OutOfMemory}

-- a result, seen by view, is what a text spells; out of memory says nothing
abbrev pub Spells : {X Y : Type 0} → (X → Y) → Result X ValueError → Option Y → Type 0
Spells view (Ok x) answer = answer ≡ Some (view x)
Spells view (Err NotOfItsType) answer = answer ≡ None
Spells view (Err OutOfRange) answer = ⊥
Spells view (Err OutOfMemory) answer = ⊤

-- ---- numbers

-- a signed number of which the positive ones are below a limit
abbrev pub signed_below : ℕ → List ℕ → Option ℤ
signed_below limit [] = None
signed_below limit (sign ∷ digits) =
    if sign == 45 then option_map (λ n. neg_ℤ (pos n)) (number_below (limit + 1) digits)
    else option_map pos (number_below limit (sign ∷ digits))

abbrev pub u8_in : List ℕ → Option ℕ
u8_in = number_below 256

abbrev pub u16_in : List ℕ → Option ℕ
u16_in = number_below 65536

abbrev pub u32_in : List ℕ → Option ℕ
u32_in = number_below 4294967296

abbrev pub i8_in : List ℕ → Option ℤ
i8_in = signed_below 128

abbrev pub i16_in : List ℕ → Option ℤ
i16_in = signed_below 32768

abbrev pub i32_in : List ℕ → Option ℤ
i32_in = signed_below 2147483648

-- ---- fractions

-- a fraction, by a name that is not that of a value
abbrev pub Quotient : Type 0
Quotient = Rational

-- a fraction of two numbers
abbrev pub fraction : ℕ → ℕ → Rational
fraction num denom = record { num = num; denom = denom }

-- a fraction, if its upper number has 32 bits
abbrev pub small_fraction : ℕ → ℕ → Option Rational
small_fraction num denom = if nat_lt num 4294967296 then Some (fraction num denom) else None

-- the fraction of a whole number and of the number that the digits behind its point spell
abbrev pub point_fraction : ℕ → List ℕ → Option Rational
point_fraction whole digits =
    option_and_then (λ part. small_fraction (whole * 10 ^ length digits + part) (10 ^ length digits))
    (number_below (10 ^ length digits) digits)

-- a decimal of one to nine digits behind its point
abbrev pub decimal_of : List ℕ × List ℕ → Option Rational
decimal_of (whole, digits) =
    if nat_le (length digits) 9
    then option_and_then (λ whole. point_fraction whole digits) (u32_in whole) else None

-- a whole number, or such a decimal
abbrev pub decimal_in : List ℕ → Option Rational
decimal_in word = elim (cut 46 word) [
  | Some parts ↦ decimal_of parts
  | None ↦ option_map (λ whole. fraction whole 1) (u32_in word)
]

-- two numbers around a slash
abbrev pub fraction_of : List ℕ × List ℕ → Option Rational
fraction_of (upper, lower) =
    option_and_then (λ num. option_map (fraction num) (u32_in lower)) (u32_in upper)

-- a fraction `1/200`, a whole number, or a decimal
abbrev pub rational_in : List ℕ → Option Rational
rational_in word = elim (cut 47 word) [ Some parts ↦ fraction_of parts | None ↦ decimal_in word ]

-- the fraction with a sign, if 31 bits hold its numbers
abbrev pub signed_fraction : Bool → Rational → Option SRational
signed_fraction is_negative of =
    if nat_lt of.num 2147483648 && nat_lt of.denom 2147483648
    then Some (record {
      num = if is_negative then neg_ℤ (pos of.num) else pos of.num;
      denom = pos of.denom;
    }) else None

-- such a fraction behind a sign, if there is one
abbrev pub srational_in : List ℕ → Option SRational
srational_in [] = None
srational_in (sign ∷ word) =
    if sign == 45 then option_and_then (signed_fraction true) (rational_in word)
    else option_and_then (signed_fraction false) (rational_in (sign ∷ word))

-- ---- lists

-- what separates the items of a list
abbrev pub is_separator : ℕ → Bool
is_separator byte = (byte == 44) || (byte == 32)

-- items, and behind them the one that a word spells, if there is a word
abbrev pub with_word : {A : Type 0} → (List ℕ → Option A) → List A → List ℕ → Option (List A)
with_word spelled items [] = Some items
with_word spelled items (byte ∷ word) =
    option_map (λ item. items ++ item ∷ []) (spelled (byte ∷ word))

-- items, and behind them those that a word and the bytes behind it spell
abbrev pub items_behind : {A : Type 0} → (List ℕ → Option A) → List ℕ → List A → List ℕ
    → Option (List A)
items_behind spelled [] items word = with_word spelled items word
items_behind spelled (byte ∷ bytes) items word =
    if is_separator byte
    then option_and_then (λ items. items_behind spelled bytes items [])
    (with_word spelled items word)
    else items_behind spelled bytes items (word ++ byte ∷ [])

-- some items at least
abbrev pub not_empty : {A : Type 0} → List A → Option (List A)
not_empty [] = None
not_empty (item ∷ items) = Some (item ∷ items)

-- the items that the words between commas and spaces spell
abbrev pub items_in : {A : Type 0} → (List ℕ → Option A) → List ℕ → Option (List A)
items_in spelled text = option_and_then not_empty (items_behind spelled text [] [])
