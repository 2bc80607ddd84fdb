-- The types of values that texts spell.
use Rattle.std.proofs.Common.{◌≡◌, ◌∙◌, ℕ, Bool, true, false, List, Option, Some, None, Result, Ok, Err, if◌then◌else◌, refl, ap, subst}
use Rattle.std.specs.Option.{option_map}
use Rattle.exif_text.specs.declared.field_type.FieldType.{FieldType}
use Rattle.exif_text.specs.declared.field_type.FieldType.TheVariants as field_type
use Rattle.exif_types.specs.ValueTypes.{field_type_of}
use Rattle.exif_types.specs.declared.tag.Tag.{Tag}
use Rattle.exif_types.specs.declared.value.Value.{Value}
use Rattle.exif_types.specs.declared.value.Value.TheVariants.{Byte, Short, Long, Rational, SByte, SShort, SLong, SRational}
use Rattle.exif_assign.specs.Fitting.{fits}
use Rattle.exif_assign.specs.Rules.{form_of}
use Rattle.exif_assign.specs.Texts.{Quotient, items_in, rational_in}
use Rattle.exif_assign.specs.Values.{ascii_value, degrees_in, degrees_value, fitting, rational_value, spelled_value, undefined_value, value_in}
use Rattle.exif_assign.specs.declared.rules.Form.{Form}
use Rattle.exif_assign.specs.declared.rules.Form.TheVariants as form
use Rattle.exif_assign.specs.declared.spelled.ValueError.{ValueError}
use Rattle.exif_assign.specs.declared.spelled.ValueError.TheVariants as value_error

-- a value that is an option's, if it has this type
abbrev Typed : FieldType → Option Value → Type 0
Typed type None = Unit {0}
Typed type (Some v) = field_type_of v ≡ Some type

-- what a text spells for a type is of the type
spelled_type : (tag : Tag) (type : FieldType) (text : List ℕ) (v : Value)
    → spelled_value tag type text ≡ Some v → field_type_of v ≡ Some type
spelled_type tag type text v e = subst (Typed type) e (typed type)
  where
    mapped : {X : Type 0} (type : FieldType) (make : X → Value) (o : Option X)
        → ((x : X) → field_type_of (make x) ≡ Some type) → Typed type (option_map make o)
    mapped type make None h = tt
    mapped type make (Some x) h = h x

    tested : (type : FieldType) (b : Bool) (v : Value) → field_type_of v ≡ Some type
        → Typed type (if b then None else Some v)
    tested type true v h = tt
    tested type false v h = h

    ascii : (form : Form) → Typed field_type.Ascii (ascii_value form text)
    ascii form.Any = tested field_type.Ascii _ _ refl
    ascii form.Nothing = tested field_type.Ascii _ _ refl
    ascii (form.Count low high) = tested field_type.Ascii _ _ refl
    ascii form.Date = tested field_type.Ascii _ _ refl
    ascii form.Day = tested field_type.Ascii _ _ refl
    ascii form.Offset = tested field_type.Ascii _ _ refl
    ascii form.Digits = tested field_type.Ascii _ _ refl
    ascii form.Comment = tested field_type.Ascii _ _ refl
    ascii (form.Within low high) = tested field_type.Ascii _ _ refl
    ascii (form.Listed listing) = tested field_type.Ascii _ _ refl
    ascii form.Fraction = tested field_type.Ascii _ _ refl
    ascii (form.Below most) = tested field_type.Ascii _ _ refl
    ascii (form.Degrees most) = tested field_type.Ascii _ _ refl
    ascii form.Clock = tested field_type.Ascii _ _ refl
    ascii (form.Letter first second) = tested field_type.Ascii _ _ refl
    ascii form.Unit = tested field_type.Ascii _ _ refl

    undefined : (form : Form) → Typed field_type.Undefined (undefined_value form text)
    undefined form.Any = refl
    undefined form.Nothing = refl
    undefined (form.Count low high) = refl
    undefined form.Date = refl
    undefined form.Day = refl
    undefined form.Offset = refl
    undefined form.Digits = refl
    undefined form.Comment = refl
    undefined (form.Within low high) = mapped field_type.Undefined _ _ (λ x. refl)
    undefined (form.Listed listing) = refl
    undefined form.Fraction = refl
    undefined (form.Below most) = refl
    undefined (form.Degrees most) = refl
    undefined form.Clock = refl
    undefined (form.Letter first second) = refl
    undefined form.Unit = refl

    degrees : Typed field_type.Rational (degrees_value text)
    degrees = by_parts (degrees_in text)
      where
        by_parts : (o : Option (List Quotient))
            → Typed field_type.Rational (elim o as (λ _. Option Value) [ Some parts ↦ Some (Rational parts) | None ↦ option_map Rational (items_in rational_in text) ])
        by_parts (Some parts) = refl
        by_parts None = mapped field_type.Rational Rational _ (λ x. refl)

    rational : (form : Form) → Typed field_type.Rational (rational_value form text)
    rational form.Any = mapped field_type.Rational Rational _ (λ x. refl)
    rational form.Nothing = mapped field_type.Rational Rational _ (λ x. refl)
    rational (form.Count low high) = mapped field_type.Rational Rational _ (λ x. refl)
    rational form.Date = mapped field_type.Rational Rational _ (λ x. refl)
    rational form.Day = mapped field_type.Rational Rational _ (λ x. refl)
    rational form.Offset = mapped field_type.Rational Rational _ (λ x. refl)
    rational form.Digits = mapped field_type.Rational Rational _ (λ x. refl)
    rational form.Comment = mapped field_type.Rational Rational _ (λ x. refl)
    rational (form.Within low high) = mapped field_type.Rational Rational _ (λ x. refl)
    rational (form.Listed listing) = mapped field_type.Rational Rational _ (λ x. refl)
    rational form.Fraction = mapped field_type.Rational Rational _ (λ x. refl)
    rational (form.Below most) = mapped field_type.Rational Rational _ (λ x. refl)
    rational (form.Degrees most) = degrees
    rational form.Clock = mapped field_type.Rational Rational _ (λ x. refl)
    rational (form.Letter first second) = mapped field_type.Rational Rational _ (λ x. refl)
    rational form.Unit = mapped field_type.Rational Rational _ (λ x. refl)

    typed : (type : FieldType) → Typed type (spelled_value tag type text)
    typed field_type.Ascii = ascii (form_of tag)
    typed field_type.Byte = mapped field_type.Byte Byte _ (λ x. refl)
    typed field_type.Short = mapped field_type.Short Short _ (λ x. refl)
    typed field_type.Long = mapped field_type.Long Long _ (λ x. refl)
    typed field_type.SByte = mapped field_type.SByte SByte _ (λ x. refl)
    typed field_type.SShort = mapped field_type.SShort SShort _ (λ x. refl)
    typed field_type.SLong = mapped field_type.SLong SLong _ (λ x. refl)
    typed field_type.SRational = mapped field_type.SRational SRational _ (λ x. refl)
    typed field_type.Float = tt
    typed field_type.Double = tt
    typed field_type.Undefined = undefined (form_of tag)
    typed field_type.Rational = rational (form_of tag)

-- a value that was spelled is of its type
pub value_type : (tag : Tag) (type : FieldType) (text : List ℕ) (v : Value)
    → value_in tag type text ≡ Ok v → field_type_of v ≡ Some type
unfolding value_in
value_type tag type text v e = by_spelled (spelled_value tag type text) refl e
  where
    no_value : (why : ValueError) → ◌≡◌ {A = Result Value ValueError} (Err why) (Ok v) → ⊥
    no_value why e = cc

    ok_value : (w : Value) → ◌≡◌ {A = Result Value ValueError} (Ok w) (Ok v) → w ≡ v
    ok_value w e = cc

    by_fit : (b : Bool) (w : Value) → spelled_value tag type text ≡ Some w
        → (if b then Ok w else Err value_error.OutOfRange) ≡ Ok v → field_type_of v ≡ Some type
    by_fit true w s e = spelled_type tag type text v (s ∙ ap (λ x. Some x) (ok_value w e))
    by_fit false w s e = absurd (no_value value_error.OutOfRange e)

    by_spelled : (o : Option Value) → spelled_value tag type text ≡ o
        → fitting (form_of tag) o ≡ Ok v → field_type_of v ≡ Some type
    by_spelled None s e = absurd (no_value value_error.NotOfItsType e)
    by_spelled (Some w) s e = by_fit (fits (form_of tag) w) w s e
