-- One fraction that is read of what is shown of it by the kind of its tag.
use Rattle.std.proofs.Common.{◌≡◌, ◌<◌, ◌≤◌, ◌+◌, ◌*◌, ◌/◌, ◌%◌, ◌^◌, ◌==◌, ◌&&◌, ◌||◌, ◌∙◌, ℕ, zero, suc, Bool, true, false, not, List, [], ◌∷◌, ◌++◌, append-nil, Option, Some, None, if◌then◌else◌, codes, decimal, option_map, refl, sym, ap, subst, arith}
use Rattle.std.specs.Prelude.{nat_le, nat_lt}
use Rattle.std.proofs.lemmas.Bool.{and_parts}
use Rattle.std.proofs.lemmas.Bool.Decides.{nat_tests}
use Rattle.std.proofs.lemmas.Fmt.{decimal_digit}
use Rattle.std.proofs.Math.Nat.{add-zero, div-add-mod', div-one, le-div_iff_mul-le, le_of_mul-le-mul_right, mod-one, mul-div_cancel, mul-le-mul_right, mul_comm, one-mul, zero-mul, mul_right_comm, mul-mod_left}
use Rattle.exif_table.specs.declared.kind.TextKind.{TextKind}
use Rattle.exif_table.specs.declared.kind.TextKind.TheVariants as K
use Rattle.exif_text.specs.Contents.{Rationals}
use Rattle.exif_text.specs.Decimal.{decimal_text, rational_decimal}
use Rattle.exif_text.specs.Plain.{listed, plain_text}
use Rattle.exif_text.specs.declared.field_type.FieldType.TheVariants as field_type
use Rattle.exif_text.specs.declared.rational.Rational.{Rational as Fraction}
use Rattle.exif_table.specs.Kinds.{value_text}
use Rattle.exif_types.specs.TagRows.{kind_of}
use Rattle.exif_types.specs.ValueTexts.{text_of}
use Rattle.exif_types.specs.declared.tag.Tag.{Tag}
use Rattle.exif_types.specs.declared.value.Value.TheVariants.{Rational}
use Rattle.exif_assign.specs.Texts.{fraction, items_in, rational_in}
use Rattle.exif_change_laws.specs.Shown.{IsParsedAs, IsShownAs, as_shown, is_decimal, one, shortened, shown_decimal, shown_inverse, shown_one}
use Rattle.exif_change_laws.proofs.RuleLists.{shows_degrees}
use Rattle.exif_change_laws.proofs.ShownDecimals.{parts_text, tail_of, ten_pos}
use Rattle.exif_change_laws.proofs.ShownFractions.{as_large, decimal_parts, quotient_spelled}
use Rattle.exif_change_laws.proofs.ShownItems.{Spells, list_read}
use Rattle.exif_change_laws.proofs.ShownKinds.{below, decimal_again, decimal_spelled, not_zero, text_by}
use Rattle.exif_change_laws.proofs.ShownTags.{fractions_of}
use Rattle.exif_change_laws.proofs.ShownValues.{read_of}

-- a text of one fraction, for a tag that is not shown as degrees
one_read : (tag : Tag) (text : List ℕ) (new : Fraction) → shows_degrees (kind_of tag) ≡ false
    → Spells rational_in text new → IsParsedAs tag text (one new)
one_read tag text new k h =
    read_of tag text (one new) field_type.Rational refl
    (fractions_of tag text k
    ∙ ap (option_map Rational)
    (subst (λ xs. items_in rational_in xs ≡ Some (new ∷ [])) (append-nil text)
    (list_read rational_in (λ (n : ℕ). text) (λ n. new) 0 [] (h, tt))))

some_same : (x y : Fraction) → ◌≡◌ {A = Option Fraction} (Some x) (Some y) → x ≡ y
some_same x y e = cc

none_some : (x : Fraction) → ◌≡◌ {A = Option Fraction} None (Some x) → ⊥
none_some x e = cc

-- a decimal
decimal_shown : (r new : Fraction) → shown_decimal r ≡ Some new → Spells rational_in (rational_decimal r) new
decimal_shown r new e = by_test (is_decimal r) refl e
  where
    by_test : (b : Bool) → is_decimal r ≡ b → (if b then Some (as_shown r) else None) ≡ Some new
        → Spells rational_in (rational_decimal r) new
    by_test true t e = subst (Spells rational_in (rational_decimal r)) (some_same (as_shown r) new e) (decimal_spelled r t)
    by_test false t e = absurd (none_some new e)

-- what is shown where a decimal is
module _ (tag : Tag) (r new : Fraction) (kind : TextKind) (is : kind_of tag ≡ kind)
    (other : shows_degrees kind ≡ false) where
  in_text : (text : List ℕ) → value_text kind (Rationals (r ∷ [])) ≡ text → Spells rational_in text new
      → IsShownAs tag (one r) (one new)
  in_text text t h =
      subst (λ xs. IsParsedAs tag xs (one new)) (sym (text_by tag (one r) kind is ∙ t))
      (one_read tag text new (ap shows_degrees is ∙ other) h)

-- ---- decimals, where no word is shown

-- a fraction is shown as the decimal that this one is
record ShowsDecimal (kind : TextKind) (r new : Fraction) : Type 0 where
  text : value_text kind (Rationals (r ∷ [])) ≡ rational_decimal r
  is : shown_decimal r ≡ Some new

module _ (r new : Fraction) where
  -- a test that must fail before the decimal
  unless : (kind : TextKind) (b : Bool) (word text : List ℕ)
      → value_text kind (Rationals (r ∷ [])) ≡ (if b then word else text) → text ≡ rational_decimal r
      → (if b then None else shown_decimal r) ≡ Some new → ShowsDecimal kind r new
  unless kind true word text t d e = absurd (none_some new e)
  unless kind false word text t d e = record { text = t ∙ d; is = e }

  last : listed rational_decimal (r ∷ []) ≡ rational_decimal r
  last = append-nil (rational_decimal r)

  shows_decimal : shown_one K.Decimal r ≡ Some new → ShowsDecimal K.Decimal r new
  shows_decimal e = record { text = last; is = e }

  shows_optional : shown_one K.OptionalDecimal r ≡ Some new → ShowsDecimal K.OptionalDecimal r new
  shows_optional e =
      unless K.OptionalDecimal (r.denom == 0xffffffff) (codes "unknown") (rational_decimal r) refl refl e

  shows_zoom : shown_one K.DigitalZoomRatio r ≡ Some new → ShowsDecimal K.DigitalZoomRatio r new
  shows_zoom e =
      unless K.DigitalZoomRatio (r.num == 0) (codes "unused") (listed rational_decimal (r ∷ [])) refl last e

  shows_distance : shown_one K.SubjectDistance r ≡ Some new → ShowsDecimal K.SubjectDistance r new
  shows_distance e = by_tests (r.num == 0) (r.num == 0xffffffff) refl e
    where
      by_tests : (a b : Bool) → value_text K.SubjectDistance (Rationals (r ∷ [])) ≡ (if a then codes "unknown" else (if b then codes "infinity" else listed rational_decimal (r ∷ [])))
          → (if a || b then None else shown_decimal r) ≡ Some new → ShowsDecimal K.SubjectDistance r new
      by_tests true b t e = absurd (none_some new e)
      by_tests false true t e = absurd (none_some new e)
      by_tests false false t e = record { text = t ∙ last; is = e }

-- of the new one the same is shown, if that is a decimal too
decimal_of_new : (kind : TextKind) (r new : Fraction) → ShowsDecimal kind r new → ShowsDecimal kind new new
    → value_text kind (Rationals (new ∷ [])) ≡ value_text kind (Rationals (r ∷ []))
decimal_of_new kind r new s n = n.text ∙ (by_test (is_decimal r) refl s.is ∙ sym s.text)
  where
    by_test : (b : Bool) → is_decimal r ≡ b → (if b then Some (as_shown r) else None) ≡ Some new
        → rational_decimal new ≡ rational_decimal r
    by_test true t e = ap rational_decimal (sym (some_same (as_shown r) new e)) ∙ decimal_again r t
    by_test false t e = absurd (none_some new e)

-- ---- exposure times below one second

-- whole numbers as decimals
whole_text : (k n : ℕ) → parts_text k (n * 10 ^ k) ≡ decimal n
whole_text k n =
    ap (λ m. decimal m ++ tail_of k (n * 10 ^ k % 10 ^ k)) (mul-div_cancel n (ten_pos k))
    ∙ (ap (λ m. decimal n ++ tail_of k m) (mul-mod_left n (10 ^ k)) ∙ append-nil (decimal n))

whole_is : (num denom : ℕ) → denom % num ≡ 0 → denom / num * num ≡ denom
whole_is num denom h =
    sym (add-zero (denom / num * num)) ∙ (ap (λ m. denom / num * num + m) (sym h) ∙ div-add-mod' denom num)

whole_parts : (k num denom : ℕ) → 0 < num → denom % num ≡ 0
    → parts_text k (denom * 10 ^ k / num) ≡ decimal (denom / num)
whole_parts k num denom some h =
    let n = denom / num in
    let whole : n * num ≡ denom = whole_is num denom h in
    ap (λ m. parts_text k (m * 10 ^ k / num)) (sym whole)
    ∙ (ap (λ m. parts_text k (m / num)) (mul_right_comm n num (10 ^ k))
    ∙ (ap (parts_text k) (mul-div_cancel (n * 10 ^ k) some) ∙ whole_text k n))

inverse_decimal : (num denom : ℕ) → (num == 0) ≡ false → denom % num ≡ 0
    → decimal_text false denom num ≡ decimal (denom / num)
inverse_decimal num denom e h =
    let some : 0 < num = grind (arith, nat_tests) in
    decimal_parts false denom num e ∙ whole_parts 9 num denom some h

inverse_spelled : (n : ℕ) → n < 2 ^ 32 → Spells rational_in (codes "1/" ++ decimal n) (fraction 1 n)
inverse_spelled n h =
    subst (λ xs. Spells rational_in (xs ++ 47 ∷ decimal n) (fraction 1 n)) (decimal_digit 1 (omega arith))
    (quotient_spelled 1 n (omega arith) h)

-- a fraction below one of which an inverse is shown
record IsInverse (r new : Fraction) : Type 0 where
  some : (r.num == 0) ≡ false
  whole : r.denom % r.num ≡ 0
  small : r.denom / r.num < 2 ^ 32
  is : fraction 1 (r.denom / r.num) ≡ new

inverse_of : (r new : Fraction) → shown_inverse r ≡ Some new → IsInverse r new
inverse_of r new e =
    by_test (not (r.num == 0) && ((r.denom % r.num == 0) && nat_lt (r.denom / r.num) (2 ^ 32))) refl e
  where
    by_test : (b : Bool) → (not (r.num == 0) && ((r.denom % r.num == 0) && nat_lt (r.denom / r.num) (2 ^ 32))) ≡ b
        → (if b then Some (fraction 1 (r.denom / r.num)) else None) ≡ Some new → IsInverse r new
    by_test true t e =
        let p = and_parts (not (r.num == 0)) ((r.denom % r.num == 0) && nat_lt (r.denom / r.num) (2 ^ 32)) t in
        let q = and_parts (r.denom % r.num == 0) (nat_lt (r.denom / r.num) (2 ^ 32)) p.1 in
        record {
          some = not_zero (r.num == 0) p.0;
          whole = zero_is (r.denom % r.num) q.0;
          small = below (r.denom / r.num) (2 ^ 32) q.1;
          is = some_same (fraction 1 (r.denom / r.num)) new e;
        }
      where
        zero_is : (n : ℕ) → (n == 0) ≡ true → n ≡ 0
        zero_is n e = grind (arith, nat_tests)
    by_test false t e = absurd (none_some new e)

module _ (r : Fraction) where
  long_text : nat_le r.denom r.num ≡ true → value_text K.ExposureTime (Rationals (r ∷ [])) ≡ rational_decimal r
  long_text e = rw e refl

  short_text : nat_le r.denom r.num ≡ false → (r.num == 0) ≡ false → r.denom % r.num ≡ 0
      → value_text K.ExposureTime (Rationals (r ∷ [])) ≡ codes "1/" ++ decimal (r.denom / r.num)
  short_text e some h =
      ap (λ t. if t then rational_decimal r else (if r.num == 0 then plain_text (Rationals (r ∷ []))
      else codes "1/" ++ decimal_text false r.denom r.num)) e
      ∙ (ap (λ t. if t then plain_text (Rationals (r ∷ [])) else codes "1/" ++ decimal_text false r.denom r.num) some
      ∙ ap (λ text. codes "1/" ++ text) (inverse_decimal r.num r.denom some h))

exposure_shown : (tag : Tag) (r new : Fraction) → kind_of tag ≡ K.ExposureTime
    → shown_one K.ExposureTime r ≡ Some new → IsShownAs tag (one r) (one new)
exposure_shown tag r new k e = by_size (nat_le r.denom r.num) refl e
  where
    by_size : (b : Bool) → nat_le r.denom r.num ≡ b
        → (if b then shown_decimal r else shown_inverse r) ≡ Some new → IsShownAs tag (one r) (one new)
    by_size true t e =
        in_text tag r new K.ExposureTime k refl (rational_decimal r) (long_text r t) (decimal_shown r new e)
    by_size false t e =
        let i = inverse_of r new e in
        in_text tag r new K.ExposureTime k refl (codes "1/" ++ decimal (r.denom / r.num))
        (short_text r t i.some i.whole)
        (subst (Spells rational_in (codes "1/" ++ decimal (r.denom / r.num))) i.is
        (inverse_spelled (r.denom / r.num) i.small))

-- ---- exposure times again

-- a fraction that is not below one is not shown as one below
still_long : (k num denom : ℕ) → 0 < denom → denom ≤ num
    → (shortened k (num * 10 ^ k / denom)).denom ≤ (shortened k (num * 10 ^ k / denom)).num
still_long k num denom some h =
    let n = num * 10 ^ k / denom in
    let s = shortened k n in
    let most : 10 ^ k * denom ≤ num * 10 ^ k =
    subst (λ m. m ≤ num * 10 ^ k) (mul_comm denom (10 ^ k)) (mul-le-mul_right (10 ^ k) h) in
    let least : 10 ^ k ≤ n = (le-div_iff_mul-le {x = 10 ^ k} {y = num * 10 ^ k} some).1 most in
    let more : 10 ^ k * s.denom ≤ n * s.denom = mul-le-mul_right s.denom least in
    le_of_mul-le-mul_right
    (subst (λ m. s.denom * 10 ^ k ≤ m) (sym (as_large k n))
    (subst (λ m. m ≤ n * s.denom) (mul_comm (10 ^ k) s.denom) more))
    (ten_pos k)

pub exposure_again : (tag : Tag) (r new : Fraction) → kind_of tag ≡ K.ExposureTime
    → shown_one K.ExposureTime r ≡ Some new → text_of tag (one new) ≡ text_of tag (one r)
exposure_again tag r new k e =
    text_by tag (one new) K.ExposureTime k
    ∙ (by_size (nat_le r.denom r.num) refl e ∙ sym (text_by tag (one r) K.ExposureTime k))
  where
    le_is : (a b : ℕ) → nat_le a b ≡ true → a ≤ b
    le_is a b e = grind (arith, nat_tests)

    is_le : (a b : ℕ) → a ≤ b → nat_le a b ≡ true
    is_le a b h = grind (arith, nat_tests)

    by_decimal : nat_le r.denom r.num ≡ true → (b : Bool) → is_decimal r ≡ b
        → (if b then Some (as_shown r) else None) ≡ Some new
        → value_text K.ExposureTime (Rationals (new ∷ [])) ≡ value_text K.ExposureTime (Rationals (r ∷ []))
    by_decimal t false d e = absurd (none_some new e)
    by_decimal t true d e =
        let zero = not_zero (r.denom == 0) (and_parts (not (r.denom == 0)) (nat_lt (as_shown r).num (2 ^ 32)) d).0 in
        let some : 0 < r.denom = grind (arith, nat_tests, zero) in
        let long = still_long 9 r.num r.denom some (le_is r.denom r.num t) in
        ap (λ (x : Fraction). value_text K.ExposureTime (Rationals (x ∷ []))) (sym (some_same (as_shown r) new e))
        ∙ (long_text (as_shown r) (is_le (as_shown r).denom (as_shown r).num long)
        ∙ (decimal_again r d ∙ sym (long_text r t)))

    by_inverse : nat_le r.denom r.num ≡ false → IsInverse r new
        → value_text K.ExposureTime (Rationals (new ∷ [])) ≡ value_text K.ExposureTime (Rationals (r ∷ []))
    by_inverse t i =
        let n = r.denom / r.num in
        let whole : n * r.num ≡ r.denom = whole_is r.num r.denom i.whole in
        ap (λ (x : Fraction). value_text K.ExposureTime (Rationals (x ∷ []))) (sym i.is)
        ∙ (short_text (fraction 1 n) (above_one n r.num r.denom whole (is_above r.denom r.num t)) refl (mod-one n)
        ∙ (ap (λ m. codes "1/" ++ decimal m) (div-one n) ∙ sym (short_text r t i.some i.whole)))
      where
        is_above : (a b : ℕ) → nat_le a b ≡ false → b < a
        is_above a b e = grind (arith, nat_tests)

        above_one : (n a b : ℕ) → n * a ≡ b → a < b → nat_le n 1 ≡ false
        above_one zero a b e h = absurd (omega (arith, zero-mul a, e, h))
        above_one (suc zero) a b e h = absurd (omega (arith, one-mul a, e, h))
        above_one (suc (suc n)) a b e h = let more : 1 < suc (suc n) = omega arith in grind (arith, nat_tests)

    by_size : (b : Bool) → nat_le r.denom r.num ≡ b
        → (if b then shown_decimal r else shown_inverse r) ≡ Some new
        → value_text K.ExposureTime (Rationals (new ∷ [])) ≡ value_text K.ExposureTime (Rationals (r ∷ []))
    by_size true t e = by_decimal t (is_decimal r) refl e
    by_size false t e = by_inverse t (inverse_of r new e)

-- ---- each kind

-- a kind of which a fraction is read, or of which none is
data View : TextKind → Type 0 where
  decimal_view : View K.Decimal
  optional_view : View K.OptionalDecimal
  distance_view : View K.SubjectDistance
  zoom_view : View K.DigitalZoomRatio
  exposure_view : View K.ExposureTime
  other_view : {kind : TextKind} → ((r : Fraction) → shown_one kind r ≡ None) → View kind

view : (kind : TextKind) → View kind
view K.Decimal = decimal_view
view K.OptionalDecimal = optional_view
view K.SubjectDistance = distance_view
view K.DigitalZoomRatio = zoom_view
view K.ExposureTime = exposure_view
view kind = other_view (λ r. refl)

pub single_shown : (tag : Tag) (r new : Fraction) → shown_one (kind_of tag) r ≡ Some new
    → IsShownAs tag (one r) (one new)
single_shown tag r new e = by_view (view (kind_of tag)) refl e
  where
    decimal_in_text : (kind : TextKind) → kind_of tag ≡ kind → shows_degrees kind ≡ false
        → ShowsDecimal kind r new → IsShownAs tag (one r) (one new)
    decimal_in_text kind k d s =
        in_text tag r new kind k d (rational_decimal r) s.text (decimal_shown r new s.is)

    by_view : {kind : TextKind} → View kind → kind_of tag ≡ kind → shown_one kind r ≡ Some new
        → IsShownAs tag (one r) (one new)
    by_view decimal_view k e = decimal_in_text K.Decimal k refl (shows_decimal r new e)
    by_view optional_view k e = decimal_in_text K.OptionalDecimal k refl (shows_optional r new e)
    by_view zoom_view k e = decimal_in_text K.DigitalZoomRatio k refl (shows_zoom r new e)
    by_view distance_view k e = decimal_in_text K.SubjectDistance k refl (shows_distance r new e)
    by_view exposure_view k e = exposure_shown tag r new k e
    by_view (other_view h) k e = absurd (none_some new (sym (h r) ∙ e))

-- the same is shown again, if no word is shown of the new one
pub single_again : (tag : Tag) (r new : Fraction) → shown_one (kind_of tag) r ≡ Some new
    → shown_one (kind_of tag) new ≡ Some new → text_of tag (one new) ≡ text_of tag (one r)
single_again tag r new e f = by_view (view (kind_of tag)) refl e f
  where
    decimals : (kind : TextKind) → kind_of tag ≡ kind → ShowsDecimal kind r new → ShowsDecimal kind new new
        → text_of tag (one new) ≡ text_of tag (one r)
    decimals kind k s n =
        text_by tag (one new) kind k ∙ (decimal_of_new kind r new s n ∙ sym (text_by tag (one r) kind k))

    by_view : {kind : TextKind} → View kind → kind_of tag ≡ kind → shown_one kind r ≡ Some new
        → shown_one kind new ≡ Some new → text_of tag (one new) ≡ text_of tag (one r)
    by_view decimal_view k e f = decimals K.Decimal k (shows_decimal r new e) (shows_decimal new new f)
    by_view optional_view k e f = decimals K.OptionalDecimal k (shows_optional r new e) (shows_optional new new f)
    by_view zoom_view k e f = decimals K.DigitalZoomRatio k (shows_zoom r new e) (shows_zoom new new f)
    by_view distance_view k e f = decimals K.SubjectDistance k (shows_distance r new e) (shows_distance new new f)
    by_view exposure_view k e f = exposure_again tag r new k e
    by_view (other_view h) k e f = absurd (none_some new (sym (h r) ∙ e))
