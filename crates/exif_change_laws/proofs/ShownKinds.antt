-- Fractions that are read of what is shown of them by the kind of their tag.
use Rattle.std.proofs.Common.{◌≡◌, ◌<◌, ◌^◌, ◌==◌, ◌∙◌, ℕ, unsigned_abs, Bool, true, false, not, List, [], ◌∷◌, ◌++◌, map, codes, flat_map, option_map, refl, sym, ap, subst, arith}
use Rattle.std.specs.Prelude.{nat_lt}
use Rattle.std.specs.List.{list_all}
use Rattle.std.proofs.lemmas.Bool.{and_parts, false≢true}
use Rattle.std.proofs.lemmas.Bool.Decides.{nat_tests}
use Rattle.exif_table.specs.declared.kind.TextKind.{TextKind}
use Rattle.exif_table.specs.declared.kind.TextKind.TheVariants as K
use Rattle.exif_text.specs.Decimal.{rational_decimal, srational_decimal}
use Rattle.exif_text.specs.Plain.{listed}
use Rattle.exif_text.specs.declared.field_type.FieldType.TheVariants as field_type
use Rattle.exif_text.specs.declared.rational.Rational.{Rational as Fraction}
use Rattle.exif_text.specs.declared.rational.SRational.{SRational as SignedFraction}
use Rattle.exif_table.specs.Kinds.{value_text}
use Rattle.exif_types.specs.PlainValues.{plain_of}
use Rattle.exif_types.specs.TagRows.{kind_of}
use Rattle.exif_types.specs.ValueTexts.{text_of}
use Rattle.exif_types.specs.declared.tag.Tag.{Tag}
use Rattle.exif_types.specs.declared.value.Value.{Value}
use Rattle.exif_types.specs.declared.value.Value.TheVariants.{Byte, Ascii, Short, Long, Rational, SByte, Undefined, SShort, SLong, SRational, Float, Double, Unknown}
use Rattle.exif_assign.specs.Texts.{rational_in, srational_in}
use Rattle.exif_change_laws.specs.Shown.{IsParsedAs, IsShownAs, are_all, are_decimals, as_decimals, as_shown, as_shown_signed, is_decimal, is_signed_decimal, is_spelled, shown_fraction}
use Rattle.exif_change_laws.proofs.RuleLists.{shows_degrees}
use Rattle.exif_change_laws.proofs.ShownAgain.{signed_again, unsigned_again}
use Rattle.exif_change_laws.proofs.ShownFractions.{signed_spelled, unsigned_spelled}
use Rattle.exif_change_laws.proofs.ShownItems.{Spells}
use Rattle.exif_change_laws.proofs.ShownTags.{fractions_of}
use Rattle.exif_change_laws.proofs.ShownValues.{items_made, plain_read, read_of}

-- the text of a value by the kind of its tag
pub text_by : (tag : Tag) (v : Value) (kind : TextKind) → kind_of tag ≡ kind
    → text_of tag v ≡ value_text kind (plain_of v)
unfolding text_of
text_by tag v kind e = ap (λ k. value_text k (plain_of v)) e

pub plainly_shown : (tag : Tag) (v : Value) → kind_of tag ≡ K.Plain → is_spelled v ≡ true
    → IsShownAs tag v v
plainly_shown tag v e h =
    subst (λ text. IsParsedAs tag text v) (sym (text_by tag v K.Plain e)) (plain_read tag v h)

-- ---- lists of decimals

pub not_zero : (b : Bool) → not b ≡ true → b ≡ false
not_zero true e = absurd (false≢true e)
not_zero false e = refl

pub below : (n m : ℕ) → nat_lt n m ≡ true → n < m
below n m e = grind (arith, nat_tests)

pub decimal_spelled : (r : Fraction) → is_decimal r ≡ true → Spells rational_in (rational_decimal r) (as_shown r)
decimal_spelled r e =
    let p = and_parts (not (r.denom == 0)) (nat_lt (as_shown r).num (2 ^ 32)) e in
    unsigned_spelled r.num r.denom (not_zero (r.denom == 0) p.0) (below (as_shown r).num (2 ^ 32) p.1)

signed_decimal_spelled : (r : SignedFraction) → is_signed_decimal r ≡ true
    → Spells srational_in (srational_decimal r) (as_shown_signed r)
signed_decimal_spelled r e =
    let f = shown_fraction (unsigned_abs r.num) (unsigned_abs r.denom) in
    let p = and_parts (not (unsigned_abs r.denom == 0)) (nat_lt f.num (2 ^ 31)) e in
    signed_spelled _ (unsigned_abs r.num) (unsigned_abs r.denom)
    (not_zero (unsigned_abs r.denom == 0) p.0) (below f.num (2 ^ 31) p.1)

pub decimals_shown : (tag : Tag) (v : Value) → kind_of tag ≡ K.Decimal → are_decimals v ≡ true
    → IsShownAs tag v (as_decimals v)
decimals_shown tag (Rational rs) e h =
    subst (λ text. IsParsedAs tag text (Rational (map as_shown rs))) (sym (text_by tag (Rational rs) K.Decimal e))
    (read_of tag (listed rational_decimal rs) (Rational (map as_shown rs)) field_type.Rational refl
    (fractions_of tag (listed rational_decimal rs) (ap shows_degrees e)
    ∙ ap (option_map Rational) (items_made is_decimal rational_in rational_decimal as_shown decimal_spelled rs h)))
decimals_shown tag (SRational rs) e h =
    subst (λ text. IsParsedAs tag text (SRational (map as_shown_signed rs))) (sym (text_by tag (SRational rs) K.Decimal e))
    (read_of tag (listed srational_decimal rs) (SRational (map as_shown_signed rs)) field_type.SRational refl
    (ap (option_map SRational)
    (items_made is_signed_decimal srational_in srational_decimal as_shown_signed signed_decimal_spelled rs h)))
decimals_shown tag (Byte ns) e h = absurd (false≢true h)
decimals_shown tag (Short ns) e h = absurd (false≢true h)
decimals_shown tag (Long ns) e h = absurd (false≢true h)
decimals_shown tag (SByte ns) e h = absurd (false≢true h)
decimals_shown tag (SShort ns) e h = absurd (false≢true h)
decimals_shown tag (SLong ns) e h = absurd (false≢true h)
decimals_shown tag (Ascii texts) e h = absurd (false≢true h)
decimals_shown tag (Undefined bytes offset) e h = absurd (false≢true h)
decimals_shown tag (Float bits) e h = absurd (false≢true h)
decimals_shown tag (Double bits) e h = absurd (false≢true h)
decimals_shown tag (Unknown type count offset) e h = absurd (false≢true h)

-- the decimals of the fractions that decimals are
texts_again : {A : Type 0} (test : A → Bool) (text : A → List ℕ) (made : A → A)
    → ((x : A) → test x ≡ true → text (made x) ≡ text x) → (xs : List A) → list_all test xs ≡ true
    → flat_map (λ y. codes ", " ++ text y) (map made xs) ≡ flat_map (λ y. codes ", " ++ text y) xs
texts_again test text made h [] e = refl
texts_again test text made h (x ∷ xs) e =
    let p = and_parts (test x) (list_all test xs) e in
    rw (h x p.0) (ap (λ rest. 44 ∷ 32 ∷ (text x ++ rest)) (texts_again test text made h xs p.1))

listed_again : {A : Type 0} (test : A → Bool) (text : A → List ℕ) (made : A → A)
    → ((x : A) → test x ≡ true → text (made x) ≡ text x) → (xs : List A) → are_all test xs ≡ true
    → listed text (map made xs) ≡ listed text xs
listed_again test text made h [] e = refl
listed_again test text made h (x ∷ xs) e =
    let p = and_parts (test x) (list_all test xs) e in
    rw (h x p.0) (ap (λ rest. text x ++ rest) (texts_again test text made h xs p.1))

pub decimal_again : (r : Fraction) → is_decimal r ≡ true → rational_decimal (as_shown r) ≡ rational_decimal r
decimal_again r e =
    unsigned_again r.num r.denom
    (not_zero (r.denom == 0) (and_parts (not (r.denom == 0)) (nat_lt (as_shown r).num (2 ^ 32)) e).0)

signed_decimal_again : (r : SignedFraction) → is_signed_decimal r ≡ true
    → srational_decimal (as_shown_signed r) ≡ srational_decimal r
signed_decimal_again r e =
    let f = shown_fraction (unsigned_abs r.num) (unsigned_abs r.denom) in
    signed_again r
    (not_zero (unsigned_abs r.denom == 0)
    (and_parts (not (unsigned_abs r.denom == 0)) (nat_lt f.num (2 ^ 31)) e).0)

pub decimals_again : (tag : Tag) (v : Value) → kind_of tag ≡ K.Decimal → are_decimals v ≡ true
    → text_of tag (as_decimals v) ≡ text_of tag v
decimals_again tag (Rational rs) e h =
    text_by tag (Rational (map as_shown rs)) K.Decimal e
    ∙ (listed_again is_decimal rational_decimal as_shown decimal_again rs h
    ∙ sym (text_by tag (Rational rs) K.Decimal e))
decimals_again tag (SRational rs) e h =
    text_by tag (SRational (map as_shown_signed rs)) K.Decimal e
    ∙ (listed_again is_signed_decimal srational_decimal as_shown_signed signed_decimal_again rs h
    ∙ sym (text_by tag (SRational rs) K.Decimal e))
decimals_again tag (Byte ns) e h = refl
decimals_again tag (Short ns) e h = refl
decimals_again tag (Long ns) e h = refl
decimals_again tag (SByte ns) e h = refl
decimals_again tag (SShort ns) e h = refl
decimals_again tag (SLong ns) e h = refl
decimals_again tag (Ascii texts) e h = refl
decimals_again tag (Undefined bytes offset) e h = refl
decimals_again tag (Float bits) e h = refl
decimals_again tag (Double bits) e h = refl
decimals_again tag (Unknown type count offset) e h = refl
