-- Values that are assigned are in the ranges of their types, and their texts are plain.
use Rattle.std.proofs.Common.{◌≡◌, ◌<◌, ◌^◌, ◌&&◌, ◌∙◌, ℕ, ℤ, pos, negsuc, Bool, true, false, not, All, List, [], ◌∷◌, find, Option, Some, None, Result, Ok, Err, FitsSigned, if◌then◌else◌, option_map, refl, sym, ap, subst, arith}
use Rattle.std.specs.Prelude.{nat_lt}
use Rattle.std.specs.Int.{w8, w16, w32}
use Rattle.std.specs.List.{list_all}
use Rattle.std.proofs.lemmas.Bool.{and_parts, false≢true}
use Rattle.std.proofs.lemmas.List.Elements.{All-weaker}
use Rattle.exif_text.specs.declared.field_type.FieldType.{FieldType}
use Rattle.exif_text.specs.declared.field_type.FieldType.TheVariants as field_type
use Rattle.exif_text.specs.declared.rational.SRational.{SRational as SignedFraction}
use Rattle.exif_types.specs.FieldEq.{tag_Decides}
use Rattle.exif_types.specs.Lookup.{tag_eq}
use Rattle.exif_types.specs.Sound.{HasPlainTexts}
use Rattle.exif_types.specs.ValueTypes.{field_type_of}
use Rattle.exif_types.specs.declared.tag.Tag.{Tag}
use Rattle.exif_types.specs.declared.value.Value.{Value}
use Rattle.exif_types.specs.declared.value.Value.TheVariants.{Byte, Ascii, Short, Long, Rational, SByte, Undefined, SShort, SLong, SRational, Float, Double, Unknown}
use Rattle.exif_layout.specs.Groups.{is_ignored}
use Rattle.exif_layout.specs.Ranged.{IsRanged}
use Rattle.exif_assign.specs.Fitting.{fits}
use Rattle.exif_assign.specs.Rules.{form_of, rule_among, rules, type_of_new}
use Rattle.exif_assign.specs.Texts.{Quotient, i16_in, i32_in, i8_in, items_in, rational_in, srational_in, u16_in, u32_in}
use Rattle.exif_assign.specs.Values.{degrees_in, degrees_value, fitting, rational_value, spelled_value, value_in}
use Rattle.exif_assign.specs.declared.spelled.ValueError.{ValueError}
use Rattle.exif_assign.specs.declared.spelled.ValueError.TheVariants.{NotOfItsType, OutOfRange}
use Rattle.exif_change_laws.proofs.MadeNumbers.{IfThere, IsSigned, IsSmall, IsSmallSigned, degrees_small, list_holds, mapped, number_small, rational_small, signed_small, srational_small, there}
use Rattle.exif_change_laws.proofs.MadeTexts.{date_plain, day_plain, text_plain}
use Rattle.exif_change_laws.proofs.RuleLists.{by_rules, fractions_in, texts_by_rules}

-- ---- what was assigned

-- a value that a text spells fits its tag
record IsSpelt (tag : Tag) (type : FieldType) (text : List ℕ) (v : Value) : Type 0 where
  spelled : spelled_value tag type text ≡ Some v
  fitted : fits (form_of tag) v ≡ true

is_spelt : (tag : Tag) (type : FieldType) (text : List ℕ) (v : Value) → value_in tag type text ≡ Ok v
    → IsSpelt tag type text v
unfolding value_in
is_spelt tag type text v e = by_spelled (spelled_value tag type text) refl e
  where
    err_ok : (why : ValueError) → ◌≡◌ {A = Result Value ValueError} (Err why) (Ok v) → ⊥
    err_ok why e = cc

    ok_same : (w : Value) → ◌≡◌ {A = Result Value ValueError} (Ok w) (Ok v) → w ≡ v
    ok_same w e = cc

    by_fit : (w : Value) (b : Bool) → spelled_value tag type text ≡ Some w → fits (form_of tag) w ≡ b
        → ◌≡◌ {A = Result Value ValueError} (if b then Ok w else Err OutOfRange) (Ok v)
        → IsSpelt tag type text v
    by_fit w true s f e =
        let same = ok_same w e in
        record {
          spelled = s ∙ ap (λ (x : Value). Some x) same;
          fitted = ap (fits (form_of tag)) (sym same) ∙ f;
        }
    by_fit w false s f e = absurd (err_ok OutOfRange e)

    by_spelled : (o : Option Value) → spelled_value tag type text ≡ o → fitting (form_of tag) o ≡ Ok v
        → IsSpelt tag type text v
    by_spelled None s e = absurd (err_ok NotOfItsType e)
    by_spelled (Some w) s e = by_fit w (fits (form_of tag) w) s refl e

-- ---- ranges

signed_fits8 : (z : ℤ) → IsSigned 128 z → FitsSigned w8 z
signed_fits8 (pos n) h = record { sfits = h }
signed_fits8 (negsuc n) h = record { sfits = h }

signed_fits16 : (z : ℤ) → IsSigned 32768 z → FitsSigned w16 z
signed_fits16 (pos n) h = record { sfits = h }
signed_fits16 (negsuc n) h = record { sfits = h }

signed_fits32 : (z : ℤ) → IsSigned 2147483648 z → FitsSigned w32 z
signed_fits32 (pos n) h = record { sfits = h }
signed_fits32 (negsuc n) h = record { sfits = h }

fraction_fits : (r : SignedFraction) → IsSmallSigned r → FitsSigned w32 r.num × FitsSigned w32 r.denom
fraction_fits r h = (signed_fits32 r.num h.0, signed_fits32 r.denom h.1)

-- fractions, and degrees
fractions_ranged : (text : List ℕ) → IfThere IsRanged (fractions_in text)
fractions_ranged text =
    mapped (All IsSmall) IsRanged Rational (items_in rational_in text) (λ rs h. h)
    (list_holds IsSmall rational_in rational_small text)

degrees_ranged : (text : List ℕ) → IfThere IsRanged (degrees_value text)
degrees_ranged text = by_degrees (degrees_in text) (degrees_small text)
  where
    by_degrees : (o : Option (List Quotient)) → IfThere (All IsSmall) o
        → IfThere IsRanged (elim o as (λ _. Option Value) [
          | Some parts ↦ Some (Rational parts)
          | None ↦ option_map Rational (items_in rational_in text)
        ])
    by_degrees (Some parts) h = h
    by_degrees None h = fractions_ranged text

rational_ranged : (tag : Tag) (text : List ℕ) → IfThere IsRanged (rational_value (form_of tag) text)
rational_ranged tag text =
    by_rules tag text (IfThere IsRanged) (fractions_ranged text) (λ number s t. degrees_ranged text)

-- whether a type has no ranges
abbrev is_free : Option FieldType → Bool
is_free (Some field_type.Ascii) = true
is_free (Some field_type.Byte) = true
is_free (Some field_type.Undefined) = true
is_free _ = false

free : (v : Value) (type : FieldType) → field_type_of v ≡ Some type → is_free (Some type) ≡ true
    → IsRanged v
free (Byte ns) type e h = tt
free (Ascii texts) type e h = tt
free (Undefined bytes offset) type e h = tt
free (Unknown kind count offset) type e h = tt
free (Short ns) type e h = absurd (false≢true (ap is_free e ∙ h))
free (Long ns) type e h = absurd (false≢true (ap is_free e ∙ h))
free (Rational rs) type e h = absurd (false≢true (ap is_free e ∙ h))
free (SByte ns) type e h = absurd (false≢true (ap is_free e ∙ h))
free (SShort ns) type e h = absurd (false≢true (ap is_free e ∙ h))
free (SLong ns) type e h = absurd (false≢true (ap is_free e ∙ h))
free (SRational rs) type e h = absurd (false≢true (ap is_free e ∙ h))
free (Float bits) type e h = absurd (false≢true (ap is_free e ∙ h))
free (Double bits) type e h = absurd (false≢true (ap is_free e ∙ h))

-- ---- texts

-- whether a type is that of texts
abbrev is_text : Option FieldType → Bool
is_text (Some field_type.Ascii) = true
is_text _ = false

-- other values than texts hold none
no_texts : (v : Value) (type : FieldType) → field_type_of v ≡ Some type → is_text (Some type) ≡ false
    → HasPlainTexts v
no_texts (Ascii texts) type e h = absurd (false≢true (sym (ap is_text e ∙ h)))
no_texts (Byte ns) type e h = tt
no_texts (Undefined bytes offset) type e h = tt
no_texts (Unknown kind count offset) type e h = tt
no_texts (Short ns) type e h = tt
no_texts (Long ns) type e h = tt
no_texts (Rational rs) type e h = tt
no_texts (SByte ns) type e h = tt
no_texts (SShort ns) type e h = tt
no_texts (SLong ns) type e h = tt
no_texts (SRational rs) type e h = tt
no_texts (Float bits) type e h = tt
no_texts (Double bits) type e h = tt

-- ---- values

-- a list of numbers of a type
numbers_ranged : {A : Type 0} (P Q : A → Type 0) (make : List A → Value) (spelled : List ℕ → Option A)
    → ((word : List ℕ) → IfThere P (spelled word)) → ((x : A) → P x → Q x)
    → ((xs : List A) → All Q xs → IsRanged (make xs)) → (text : List ℕ) (v : Value)
    → option_map make (items_in spelled text) ≡ Some v → IsRanged v
numbers_ranged P Q make spelled h k m text v e =
    there IsRanged (option_map make (items_in spelled text)) v e
    (mapped (All P) IsRanged make (items_in spelled text) (λ xs a. m xs (All-weaker P Q k xs a))
    (list_holds P spelled h text))

none_some : (v : Value) → ◌≡◌ {A = Option Value} None (Some v) → ⊥
none_some v e = cc

pub made_value : (tag : Tag) (type : FieldType) (text : List ℕ) (v : Value) → field_type_of v ≡ Some type
    → value_in tag type text ≡ Ok v → IsRanged v × HasPlainTexts v
made_value tag type text v is e = by_type type is (is_spelt tag type text v e)
  where
    by_type : (type : FieldType) → field_type_of v ≡ Some type → IsSpelt tag type text v
        → IsRanged v × HasPlainTexts v
    by_type field_type.Ascii is s = (
      free v field_type.Ascii is refl,
      texts_by_rules tag text HasPlainTexts (text_plain text) (date_plain text) (day_plain text) v
          s.spelled s.fitted,
    )
    by_type field_type.Byte is s = (free v field_type.Byte is refl, no_texts v field_type.Byte is refl)
    by_type field_type.Undefined is s = (free v field_type.Undefined is refl, no_texts v field_type.Undefined is refl)
    by_type field_type.Short is s = (
      numbers_ranged (λ n. n < 2 ^ 16) (λ n. n < 2 ^ 16) Short u16_in (number_small (2 ^ 16)) (λ n h. h)
          (λ xs h. h) text v s.spelled,
      no_texts v field_type.Short is refl,
    )
    by_type field_type.Long is s = (
      numbers_ranged (λ n. n < 2 ^ 32) (λ n. n < 2 ^ 32) Long u32_in (number_small (2 ^ 32)) (λ n h. h)
          (λ xs h. h) text v s.spelled,
      no_texts v field_type.Long is refl,
    )
    by_type field_type.SByte is s = (
      numbers_ranged (IsSigned 128) (FitsSigned w8) SByte i8_in (signed_small 128 (omega arith)) signed_fits8
          (λ xs h. h) text v s.spelled,
      no_texts v field_type.SByte is refl,
    )
    by_type field_type.SShort is s = (
      numbers_ranged (IsSigned 32768) (FitsSigned w16) SShort i16_in (signed_small 32768 (omega arith))
          signed_fits16 (λ xs h. h) text v s.spelled,
      no_texts v field_type.SShort is refl,
    )
    by_type field_type.SLong is s = (
      numbers_ranged (IsSigned 2147483648) (FitsSigned w32) SLong i32_in (signed_small 2147483648 (omega arith))
          signed_fits32 (λ xs h. h) text v s.spelled,
      no_texts v field_type.SLong is refl,
    )
    by_type field_type.Rational is s = (
      there IsRanged (rational_value (form_of tag) text) v s.spelled (rational_ranged tag text),
      no_texts v field_type.Rational is refl,
    )
    by_type field_type.SRational is s = (
      numbers_ranged IsSmallSigned (λ (r : SignedFraction). FitsSigned w32 r.num × FitsSigned w32 r.denom)
          SRational srational_in srational_small fraction_fits (λ xs h. h) text v s.spelled,
      no_texts v field_type.SRational is refl,
    )
    by_type field_type.Float is s = absurd (none_some v s.spelled)
    by_type field_type.Double is s = absurd (none_some v s.spelled)

-- ---- tags

-- whether a tag can be written
abbrev pub is_written : Tag → Bool
is_written tag = nat_lt tag.1 (2 ^ 16) && not (is_ignored tag.0 tag.1)

pub all_written : list_all (λ rule. is_written rule.0) rules ≡ true
all_written = refl

-- what is found passes, and is what was looked for
found_written : {A : Type 0} (test good : A → Bool) (xs : List A) (x : A) → find test xs ≡ Some x
    → list_all good xs ≡ true → (good x ≡ true) × (test x ≡ true)
found_written {A} test good [] x e h = absurd (none e)
  where
    none : ◌≡◌ {A = Option A} None (Some x) → ⊥
    none e = cc
found_written {A} test good (y ∷ ys) x e h =
    let p = and_parts (good y) (list_all good ys) h in
    by_test (test y) refl p.0 e (λ k. found_written test good ys x k p.1)
  where
    same : ◌≡◌ {A = Option A} (Some y) (Some x) → y ≡ x
    same e = cc

    by_test : (b : Bool) → test y ≡ b → good y ≡ true → (if b then Some y else find test ys) ≡ Some x
        → (find test ys ≡ Some x → (good x ≡ true) × (test x ≡ true)) → (good x ≡ true) × (test x ≡ true)
    by_test true t g e k = subst (λ (z : A). (good z ≡ true) × (test z ≡ true)) (same e) (g, t)
    by_test false t g e k = k e

-- what is made of an option was made of something
made_of : {A B : Type 0} (make : A → B) (o : Option A) (y : B) → option_map make o ≡ Some y
    → (x : A) × (o ≡ Some x)
made_of {A} {B} make None y e = absurd (none e)
  where
    none : ◌≡◌ {A = Option B} None (Some y) → ⊥
    none e = cc
made_of make (Some x) y e = (x, refl)

-- a tag of which a new field can be made can be written
pub new_written : (tag : Tag) (type : FieldType) → type_of_new tag ≡ Some type → is_written tag ≡ true
new_written tag type e =
    let r = made_of (λ rule. rule.1) (rule_among rules tag) type e in
    let f = found_written (λ rule. tag_eq rule.0 tag) (λ rule. is_written rule.0) rules r.0 r.1 all_written in
    ap is_written (sym ((tag_Decides r.0.0 tag).0 f.1)) ∙ f.0
