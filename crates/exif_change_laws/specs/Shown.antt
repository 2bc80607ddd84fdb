-- What is read of the texts that are shown of values.
use Rattle.std.specs.Prelude.{◌≡◌, ℕ, ℤ, zero, suc, pos, negsuc, neg_ℤ, unsigned_abs, ◌*◌, ◌*ℤ◌, ◌/◌, ◌%◌, ◌^◌, ◌==◌, ◌&&◌, ◌||◌, not, nat_le, nat_lt, if◌then◌else◌, Bool, true, false, List, [], ◌∷◌, map, Option, Some, None, Ok}
use Rattle.std.specs.List.{list_all}
use Rattle.exif_table.specs.declared.kind.TextKind.{TextKind}
use Rattle.exif_table.specs.declared.kind.TextKind.TheVariants as K
use Rattle.exif_text.specs.Decimal.{signs_differ}
use Rattle.exif_text.specs.Plain.{plain_text}
use Rattle.exif_text.specs.declared.field_type.FieldType.{FieldType}
use Rattle.exif_text.specs.declared.rational.Rational.{Rational as Fraction}
use Rattle.exif_text.specs.declared.rational.SRational.{SRational as SignedFraction}
use Rattle.exif_types.specs.Lookup.{last_named}
use Rattle.exif_types.specs.PlainValues.{plain_of}
use Rattle.exif_types.specs.TagRows.{kind_of}
use Rattle.exif_types.specs.ValueTexts.{text_of}
use Rattle.exif_types.specs.ValueTypes.{field_type_of}
use Rattle.exif_types.specs.declared.field.Field.{Field}
use Rattle.exif_types.specs.declared.tag.Tag.{Tag}
use Rattle.exif_types.specs.declared.value.Value.{Value}
use Rattle.exif_types.specs.declared.value.Value.TheVariants.{Byte, Short, Long, Rational, SByte, SShort, SLong, SRational}
use Rattle.exif_assign.specs.Fitting.{fits}
use Rattle.exif_assign.specs.Rules.{form_of}
use Rattle.exif_assign.specs.Texts.{fraction}
use Rattle.exif_assign.specs.Values.{fitting, value_in}
use Rattle.exif_change.specs.Reading.{primary}
use Rattle.exif_setting.specs.Setting.{field_for}

-- ---- texts that are read as values

-- a text is read as this value for a tag, in whose range it may still not be
abbrev pub IsParsedAs : Tag → List ℕ → Value → Type 0
IsParsedAs tag text value =
    (type : FieldType) → field_type_of value ≡ Some type
    → value_in tag type text ≡ fitting (form_of tag) (Some value)

-- what is shown of a tag's value is read as this one
abbrev pub IsShownAs : Tag → Value → Value → Type 0
IsShownAs tag value new = IsParsedAs tag (text_of tag value) new

-- ---- values that are shown as they are

-- whether a list holds items, each of which passes a test
abbrev pub are_all : {A : Type 0} → (A → Bool) → List A → Bool
are_all test [] = false
are_all test (x ∷ xs) = list_all test (x ∷ xs)

-- whether a number is from -n to n - 1
abbrev pub is_within : ℕ → ℤ → Bool
is_within n (pos m) = nat_lt m n
is_within n (negsuc m) = nat_lt m n

-- whether a fraction has two numbers of 32 bits
abbrev pub is_quotient : Fraction → Bool
is_quotient r = nat_lt r.num (2 ^ 32) && nat_lt r.denom (2 ^ 32)

-- whether a number is not negative, and has 31 bits
abbrev pub is_natural : ℤ → Bool
is_natural (pos n) = nat_lt n (2 ^ 31)
is_natural (negsuc n) = false

-- whether a fraction has an upper number above -2 ^ 31, and a lower one that is not negative
abbrev pub is_signed_quotient : SignedFraction → Bool
is_signed_quotient r = nat_lt (unsigned_abs r.num) (2 ^ 31) && is_natural r.denom

-- whether a value holds numbers or fractions, which a text can spell
abbrev pub is_spelled : Value → Bool
is_spelled (Byte ns) = are_all (λ n. nat_lt n (2 ^ 8)) ns
is_spelled (Short ns) = are_all (λ n. nat_lt n (2 ^ 16)) ns
is_spelled (Long ns) = are_all (λ n. nat_lt n (2 ^ 32)) ns
is_spelled (SByte ns) = are_all (is_within (2 ^ 7)) ns
is_spelled (SShort ns) = are_all (is_within (2 ^ 15)) ns
is_spelled (SLong ns) = are_all (is_within (2 ^ 31)) ns
is_spelled (Rational rs) = are_all is_quotient rs
is_spelled (SRational rs) = are_all is_signed_quotient rs
is_spelled _ = false

-- such a value
abbrev pub IsSpelled : Value → Type 0
IsSpelled value = is_spelled value ≡ true

-- its plain text
abbrev pub own_text : Value → List ℕ
own_text value = plain_text (plain_of value)

-- ---- fractions that are shown as decimals

-- n parts of 10 ^ k, without the zeros at the end of n
unfoldable pub shortened : ℕ → ℕ → Fraction
shortened zero n = fraction n 1
shortened (suc k) n = if n % 10 == 0 then shortened k (n / 10) else fraction n (10 ^ suc k)

-- the fraction that the decimal of two numbers is: so many billionths
abbrev pub shown_fraction : ℕ → ℕ → Fraction
shown_fraction num denom = shortened 9 (num * 10 ^ 9 / denom)

-- the same of a fraction without sign
abbrev pub as_shown : Fraction → Fraction
as_shown r = shown_fraction r.num r.denom

-- a number with the sign of two
abbrev pub with_sign : ℤ → ℤ → ℕ → ℤ
with_sign a b n = if signs_differ a b then neg_ℤ (pos n) else pos n

-- the same of a fraction with sign
abbrev pub as_shown_signed : SignedFraction → SignedFraction
as_shown_signed r =
    let of = shown_fraction (unsigned_abs r.num) (unsigned_abs r.denom) in
    record { num = with_sign r.num r.denom of.num; denom = pos of.denom }

-- whether the decimal of two numbers is a fraction whose upper number is below a limit
abbrev pub has_decimal : ℕ → ℕ → ℕ → Bool
has_decimal limit num denom = not (denom == 0) && nat_lt (shown_fraction num denom).num limit

-- whether a fraction has a decimal that can be read
abbrev pub is_decimal : Fraction → Bool
is_decimal r = has_decimal (2 ^ 32) r.num r.denom

-- the same of a fraction with sign
abbrev pub is_signed_decimal : SignedFraction → Bool
is_signed_decimal r = has_decimal (2 ^ 31) (unsigned_abs r.num) (unsigned_abs r.denom)

-- whether a value holds such fractions
abbrev pub are_decimals : Value → Bool
are_decimals (Rational rs) = are_all is_decimal rs
are_decimals (SRational rs) = are_all is_signed_decimal rs
are_decimals _ = false

-- the value that is shown by decimals
abbrev pub as_decimals : Value → Value
as_decimals (Rational rs) = Rational (map as_shown rs)
as_decimals (SRational rs) = SRational (map as_shown_signed rs)
as_decimals value = value

-- such a value of a tag whose fractions are shown as decimals
pub record HasDecimals (tag : Tag) (value : Value) : Type 0 where
  pub kind : kind_of tag ≡ K.Decimal
  pub decimals : are_decimals value ≡ true

-- a value is in the range of a tag
abbrev pub Fits : Tag → Value → Type 0
Fits tag value = fits (form_of tag) value ≡ true

-- the same is shown of two values
abbrev pub AreAlike : Tag → Value → Value → Type 0
AreAlike tag a b = text_of tag a ≡ text_of tag b

-- ---- one fraction

-- a value of one fraction
abbrev pub one : Fraction → Value
one r = Rational (r ∷ [])

-- a fraction that is shown by its decimal, if that can be read
abbrev pub shown_decimal : Fraction → Option Fraction
shown_decimal r = if is_decimal r then Some (as_shown r) else None

-- `1/n` for a fraction below one, if it is one over a whole number
abbrev pub shown_inverse : Fraction → Option Fraction
shown_inverse r =
    if not (r.num == 0) && ((r.denom % r.num == 0) && nat_lt (r.denom / r.num) (2 ^ 32))
    then Some (fraction 1 (r.denom / r.num)) else None

-- the fraction that is shown of one by the kind of its tag, where no word is shown
abbrev pub shown_one : TextKind → Fraction → Option Fraction
shown_one K.Decimal r = shown_decimal r
shown_one K.OptionalDecimal r = if r.denom == 0xffffffff then None else shown_decimal r
shown_one K.SubjectDistance r =
    if (r.num == 0) || (r.num == 0xffffffff) then None else shown_decimal r
shown_one K.DigitalZoomRatio r = if r.num == 0 then None else shown_decimal r
shown_one K.ExposureTime r = if nat_le r.denom r.num then shown_decimal r else shown_inverse r
shown_one kind r = None

-- a fraction of a tag is shown as one
abbrev pub IsSingle : Tag → Fraction → Fraction → Type 0
IsSingle tag r new = shown_one (kind_of tag) r ≡ Some new

-- an exposure time is
pub record IsExposure (tag : Tag) (r new : Fraction) : Type 0 where
  pub kind : kind_of tag ≡ K.ExposureTime
  pub shown : shown_one K.ExposureTime r ≡ Some new

-- ---- numbers

-- nine places suffice for the decimal of two numbers
abbrev pub IsExact : ℕ → ℕ → Type 0
IsExact num denom = num * 10 ^ 9 % denom ≡ 0

-- the same with signs
abbrev pub IsExactSigned : SignedFraction → Type 0
IsExactSigned r = IsExact (unsigned_abs r.num) (unsigned_abs r.denom)

-- two fractions are the same number
abbrev pub AreEqual : Fraction → Fraction → Type 0
AreEqual a b = a.num * b.denom ≡ b.num * a.denom

-- the same with signs
abbrev pub AreEqualSigned : SignedFraction → SignedFraction → Type 0
AreEqualSigned a b = a.num *ℤ b.denom ≡ b.num *ℤ a.denom

-- ---- texts that are set

-- the last field of a tag, of the primary image, with a value in the range of the tag
pub record HasField (fields : List Field) (tag : Tag) (f : Field) : Type 0 where
  pub read : last_named fields tag primary ≡ Some f
  pub fits : Fits tag f.value

-- what is shown of one value, assigned to its tag in a file with these fields, sets this value
abbrev pub Sets : List Field → Tag → Value → Value → Type 0
Sets fields tag value new =
    field_for fields (tag, text_of tag value)
    ≡ Ok (record { tag = tag; ifd_num = primary; value = new })

-- a field that a file has among its fields
pub record Held : Type 0 where
  pub fields : List Field
  pub tag : Tag
  pub field : Field
  pub has : HasField fields tag field

-- what is shown of it, assigned to its tag, sets this value
abbrev pub SetsTo : Held → Value → Type 0
SetsTo h new = Sets h.fields h.tag h.field.value new

-- it is one fraction, of which another one is shown that fits the tag
pub record HoldsOne (h : Held) (r new : Fraction) : Type 0 where
  pub value : h.field.value ≡ one r
  pub shown : IsSingle h.tag r new
  pub fits : Fits h.tag (one new)
