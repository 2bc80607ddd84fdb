-- Values that are read of their plain texts.
use Rattle.std.proofs.Common.{◌≡◌, ◌<◌, ◌≤◌, ◌^◌, ◌∙◌, ℕ, ℤ, suc, pos, negsuc, unsigned_abs, Bool, true, List, [], ◌∷◌, ◌++◌, map, map-id, Option, Some, None, codes, decimal, flat_map, append_assoc, option_and_then, option_map, refl, sym, ap, subst, arith}
use Rattle.std.specs.Prelude.{nat_lt}
use Rattle.std.specs.Fmt.{signed_decimal}
use Rattle.std.specs.List.{list_all}
use Rattle.std.proofs.lemmas.Bool.{and_parts, false≢true}
use Rattle.std.proofs.lemmas.Bool.Decides.{nat_tests}
use Rattle.exif_text.specs.Plain.{listed, plain_text}
use Rattle.exif_text.specs.Rational.{rational_text, srational_text}
use Rattle.exif_text.specs.declared.field_type.FieldType.{FieldType}
use Rattle.exif_text.specs.declared.field_type.FieldType.TheVariants as field_type
use Rattle.exif_text.specs.declared.rational.Rational.{Rational as Fraction}
use Rattle.exif_text.specs.declared.rational.SRational.{SRational as SignedFraction}
use Rattle.exif_types.specs.PlainValues.{plain_of}
use Rattle.exif_types.specs.ValueTypes.{field_type_of}
use Rattle.exif_types.specs.declared.tag.Tag.{Tag}
use Rattle.exif_types.specs.declared.value.Value.{Value}
use Rattle.exif_types.specs.declared.value.Value.TheVariants.{Byte, Ascii, Short, Long, Rational, SByte, Undefined, SShort, SLong, SRational, Float, Double, Unknown}
use Rattle.exif_datetime.specs.Numbers.{cut, digits_below, next_below, number_below}
use Rattle.exif_assign.specs.Rules.{form_of}
use Rattle.exif_assign.specs.Texts.{Quotient, fraction, i16_in, i32_in, i8_in, items_in, rational_in, signed_below, srational_in, u16_in, u32_in, u8_in}
use Rattle.exif_assign.specs.Values.{decimal_degrees, degrees_in, fitting, spelled_value, value_in}
use Rattle.exif_change_laws.specs.Shown.{IsParsedAs, are_all, is_natural, is_quotient, is_signed_quotient, is_spelled, is_within}
use Rattle.exif_change_laws.proofs.ShownDigits.{Lacks, cut_nowhere, decimal_of_number, digits_lack, lacks_append}
use Rattle.exif_change_laws.proofs.ShownFractions.{quotient_spelled}
use Rattle.exif_change_laws.proofs.ShownItems.{AllSpell, Spells, list_read}
use Rattle.exif_change_laws.proofs.ShownTags.{no_degrees}
use Rattle.exif_change_laws.proofs.ShownNumbers.{negative_quotient, negative_spelled, number_spelled, positive_quotient, positive_spelled}

-- ---- lists

-- each item that passes a test is spelled
all_spelled : {A B : Type 0} (test : A → Bool) (spelled : List ℕ → Option B) (text : A → List ℕ)
    (made : A → B) → ((x : A) → test x ≡ true → Spells spelled (text x) (made x))
    → (xs : List A) → list_all test xs ≡ true → AllSpell spelled text made xs
all_spelled test spelled text made h [] e = tt
all_spelled test spelled text made h (x ∷ xs) e =
    let p = and_parts (test x) (list_all test xs) e in
    (h x p.0, all_spelled test spelled text made h xs p.1)

pub items_made : {A B : Type 0} (test : A → Bool) (spelled : List ℕ → Option B) (text : A → List ℕ)
    (made : A → B) → ((x : A) → test x ≡ true → Spells spelled (text x) (made x))
    → (xs : List A) → are_all test xs ≡ true
    → items_in spelled (listed text xs) ≡ Some (map made xs)
items_made test spelled text made h [] e = absurd (false≢true e)
items_made test spelled text made h (x ∷ xs) e =
    list_read spelled text made x xs (all_spelled test spelled text made h (x ∷ xs) e)

same_items : {A : Type 0} (test : A → Bool) (spelled : List ℕ → Option A) (text : A → List ℕ)
    → ((x : A) → test x ≡ true → Spells spelled (text x) x)
    → (xs : List A) → are_all test xs ≡ true → items_in spelled (listed text xs) ≡ Some xs
same_items {A} test spelled text h xs e =
    items_made test spelled text (λ (x : A). x) h xs e ∙ ap (λ (those : List A). Some those) (map-id xs)

-- ---- values

same_type : (a b : FieldType) → ◌≡◌ {A = Option FieldType} (Some a) (Some b) → a ≡ b
same_type a b e = cc

-- what is spelled for the type of a value is read as it
pub read_of : (tag : Tag) (text : List ℕ) (value : Value) (t : FieldType)
    → field_type_of value ≡ Some t → spelled_value tag t text ≡ Some value → IsParsedAs tag text value
unfolding value_in
read_of tag text value t is e = λ type h.
    subst (λ (k : FieldType). value_in tag k text ≡ fitting (form_of tag) (Some value))
    (same_type t type (sym is ∙ h)) (ap (fitting (form_of tag)) e)

below : (n m : ℕ) → nat_lt n m ≡ true → n < m
below n m e = grind (arith, nat_tests)

-- ---- numbers

small_spelled : (limit : ℕ) → limit ≤ 2 ^ 32 → (n : ℕ) → nat_lt n limit ≡ true
    → Spells (number_below limit) (decimal n) n
small_spelled limit most n e =
    let h : n < limit = below n limit e in
    number_spelled limit n (omega arith) h

within_spelled : (limit : ℕ) → limit ≤ 2 ^ 31 → (z : ℤ) → is_within limit z ≡ true
    → Spells (signed_below limit) (signed_decimal z) z
within_spelled limit most (pos n) e =
    let h : n < limit = below n limit e in
    positive_spelled limit n (omega arith) h
within_spelled limit most (negsuc n) e =
    let h : n < limit = below n limit e in
    negative_spelled limit n (omega arith) h

-- ---- fractions

fraction_spelled : (r : Fraction) → is_quotient r ≡ true → Spells rational_in (rational_text r) r
fraction_spelled r e =
    let p = and_parts (nat_lt r.num (2 ^ 32)) (nat_lt r.denom (2 ^ 32)) e in
    quotient_spelled r.num r.denom (below r.num (2 ^ 32) p.0) (below r.denom (2 ^ 32) p.1)

signed_spelled : (r : SignedFraction) → is_signed_quotient r ≡ true → Spells srational_in (srational_text r) r
signed_spelled r e =
    let p = and_parts (nat_lt (unsigned_abs r.num) (2 ^ 31)) (is_natural r.denom) e in
    by_signs r.num r.denom p.0 p.1
  where
    by_signs : (num denom : ℤ) → nat_lt (unsigned_abs num) (2 ^ 31) ≡ true → is_natural denom ≡ true
        → Spells srational_in (srational_text (record { num = num; denom = denom })) (record { num = num; denom = denom })
    by_signs num (negsuc d) h k = absurd (false≢true k)
    by_signs (pos n) (pos d) h k = positive_quotient n d (below n (2 ^ 31) h) (below d (2 ^ 31) k)
    by_signs (negsuc n) (pos d) h k =
        negative_quotient n d (below (suc n) (2 ^ 31) h) (below d (2 ^ 31) k)

-- a slash is no digit
slash_unread : (limit n : ℕ) (xs ys : List ℕ) → digits_below limit (xs ++ 47 ∷ ys) n ≡ None
slash_unread limit n [] ys = refl
slash_unread limit n (x ∷ xs) ys =
    by_next (next_below limit n x) (λ m. slash_unread limit m xs ys)
  where
    by_next : (o : Option ℕ) → ((m : ℕ) → digits_below limit (xs ++ 47 ∷ ys) m ≡ None)
        → option_and_then (digits_below limit (xs ++ 47 ∷ ys)) o ≡ None
    by_next None h = refl
    by_next (Some m) h = h m

no_number : (limit : ℕ) (xs ys : List ℕ) → number_below limit (xs ++ 47 ∷ ys) ≡ None
no_number limit [] ys = slash_unread limit 0 [] ys
no_number limit (x ∷ xs) ys = slash_unread limit 0 (x ∷ xs) ys

-- fractions with slashes have no point
quotient_lacks : (r : Fraction) → is_quotient r ≡ true → Lacks 46 (rational_text r)
quotient_lacks r e =
    let p = and_parts (nat_lt r.num (2 ^ 32)) (nat_lt r.denom (2 ^ 32)) e in
    let h : r.num < 2 ^ 32 = below r.num (2 ^ 32) p.0 in
    let k : r.denom < 2 ^ 32 = below r.denom (2 ^ 32) p.1 in
    lacks_append 46 (decimal r.num) (47 ∷ decimal r.denom)
    (digits_lack 46 (omega arith) (decimal r.num) (decimal_of_number r.num (omega arith)).digits)
    (refl, digits_lack 46 (omega arith) (decimal r.denom) (decimal_of_number r.denom (omega arith)).digits)

quotients_lack : (rs : List Fraction) → list_all is_quotient rs ≡ true
    → Lacks 46 (flat_map (λ (y : Fraction). codes ", " ++ rational_text y) rs)
quotients_lack [] e = tt
quotients_lack (r ∷ rs) e =
    let p = and_parts (is_quotient r) (list_all is_quotient rs) e in (
      refl,
      (
        refl,
        lacks_append 46 (rational_text r)
            (flat_map (λ (y : Fraction). codes ", " ++ rational_text y) rs)
            (quotient_lacks r p.0) (quotients_lack rs p.1),
      ),
    )

quotients_no_degrees : (rs : List Fraction) → are_all is_quotient rs ≡ true
    → degrees_in (listed rational_text rs) ≡ None
quotients_no_degrees [] e = absurd (false≢true e)
quotients_no_degrees (r ∷ rs) e =
    let p = and_parts (is_quotient r) (list_all is_quotient rs) e in
    let rest = flat_map (λ (y : Fraction). codes ", " ++ rational_text y) rs in
    let text = rational_text r ++ rest in
    let no_point : cut 46 text ≡ None =
    cut_nowhere 46 [] text (lacks_append 46 (rational_text r) rest (quotient_lacks r p.0) (quotients_lack rs p.1)) in
    let none : number_below 1000 text ≡ None =
    ap (number_below 1000) (append_assoc (decimal r.num) (47 ∷ decimal r.denom) rest)
    ∙ no_number 1000 (decimal r.num) (decimal r.denom ++ rest) in
    ap (λ (x : Option (List ℕ × List ℕ)). elim x as (λ _. Option (List Quotient)) [
      | Some parts ↦ decimal_degrees parts
      | None ↦ option_map (λ degrees. fraction degrees 1 ∷ fraction 0 1 ∷ fraction 0 1 ∷ []) (number_below 1000 text)
    ]) no_point
    ∙ ap (option_map (λ degrees. fraction degrees 1 ∷ fraction 0 1 ∷ fraction 0 1 ∷ [])) none

-- ---- plain texts

pub plain_read : (tag : Tag) (v : Value) → is_spelled v ≡ true → IsParsedAs tag (plain_text (plain_of v)) v
plain_read tag (Byte ns) e =
    read_of tag (listed decimal ns) (Byte ns) field_type.Byte refl
    (ap (option_map Byte)
    (same_items (λ n. nat_lt n (2 ^ 8)) u8_in decimal (small_spelled 256 (omega arith)) ns e))
plain_read tag (Short ns) e =
    read_of tag (listed decimal ns) (Short ns) field_type.Short refl
    (ap (option_map Short)
    (same_items (λ n. nat_lt n (2 ^ 16)) u16_in decimal (small_spelled 65536 (omega arith)) ns e))
plain_read tag (Long ns) e =
    read_of tag (listed decimal ns) (Long ns) field_type.Long refl
    (ap (option_map Long)
    (same_items (λ n. nat_lt n (2 ^ 32)) u32_in decimal (small_spelled 4294967296 (omega arith)) ns e))
plain_read tag (SByte ns) e =
    read_of tag (listed signed_decimal ns) (SByte ns) field_type.SByte refl
    (ap (option_map SByte)
    (same_items (is_within (2 ^ 7)) i8_in signed_decimal (within_spelled 128 (omega arith)) ns e))
plain_read tag (SShort ns) e =
    read_of tag (listed signed_decimal ns) (SShort ns) field_type.SShort refl
    (ap (option_map SShort)
    (same_items (is_within (2 ^ 15)) i16_in signed_decimal (within_spelled 32768 (omega arith)) ns e))
plain_read tag (SLong ns) e =
    read_of tag (listed signed_decimal ns) (SLong ns) field_type.SLong refl
    (ap (option_map SLong)
    (same_items (is_within (2 ^ 31)) i32_in signed_decimal (within_spelled 2147483648 (omega arith)) ns e))
plain_read tag (Rational rs) e =
    read_of tag (listed rational_text rs) (Rational rs) field_type.Rational refl
    (no_degrees tag (listed rational_text rs) (quotients_no_degrees rs e)
    ∙ ap (option_map Rational) (same_items is_quotient rational_in rational_text fraction_spelled rs e))
plain_read tag (SRational rs) e =
    read_of tag (listed srational_text rs) (SRational rs) field_type.SRational refl
    (ap (option_map SRational) (same_items is_signed_quotient srational_in srational_text signed_spelled rs e))
plain_read tag (Ascii texts) e = absurd (false≢true e)
plain_read tag (Undefined bytes offset) e = absurd (false≢true e)
plain_read tag (Float bits) e = absurd (false≢true e)
plain_read tag (Double bits) e = absurd (false≢true e)
plain_read tag (Unknown type count offset) e = absurd (false≢true e)
