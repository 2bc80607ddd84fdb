-- Equality of values.
use Rattle.std.specs.Prelude.{◌≡◌, ℕ, ℤ, ◌==◌, ◌&&◌, Bool, true, false, List, refl}
use Rattle.std.specs.Bool.{Decides}
use Rattle.std.specs.Cmp.{unsigned_Decides, signed_Decides}
use Rattle.std.specs.Cmp.Lexicographic.{pointwise}
use Rattle.std.specs.Ordering.{int_eq}
use Rattle.std.proofs.Common.{ap}
use Rattle.std.proofs.lemmas.Slice.Eq.{slice_eq-Decides}
use Rattle.std.proofs.lemmas.Bool.{false≢true}
use Rattle.exif_text.specs.declared.rational.Rational.{Rational}
use Rattle.exif_text.specs.declared.rational.SRational.{SRational}
use Rattle.exif_types.specs.declared.value.Value.{Value}
use Rattle.exif_types.specs.declared.value.Value.TheVariants as value

-- whether two fractions hold the same
abbrev pub rational_eq : Rational → Rational → Bool
rational_eq a b = (a.num == b.num) && (a.denom == b.denom)

-- whether two signed fractions hold the same
abbrev pub srational_eq : SRational → SRational → Bool
srational_eq a b = int_eq a.num b.num && int_eq a.denom b.denom

-- whether two values are of one kind and hold the same
abbrev pub value_eq : Value → Value → Bool
value_eq (value.Byte xs) (value.Byte ys) = pointwise ◌==◌ xs ys
value_eq (value.Ascii xs) (value.Ascii ys) = pointwise (pointwise ◌==◌) xs ys
value_eq (value.Short xs) (value.Short ys) = pointwise ◌==◌ xs ys
value_eq (value.Long xs) (value.Long ys) = pointwise ◌==◌ xs ys
value_eq (value.Rational xs) (value.Rational ys) = pointwise rational_eq xs ys
value_eq (value.SByte xs) (value.SByte ys) = pointwise int_eq xs ys
value_eq (value.Undefined xs p) (value.Undefined ys q) = pointwise ◌==◌ xs ys && (p == q)
value_eq (value.SShort xs) (value.SShort ys) = pointwise int_eq xs ys
value_eq (value.SLong xs) (value.SLong ys) = pointwise int_eq xs ys
value_eq (value.SRational xs) (value.SRational ys) = pointwise srational_eq xs ys
value_eq (value.Float xs) (value.Float ys) = pointwise ◌==◌ xs ys
value_eq (value.Double xs) (value.Double ys) = pointwise ◌==◌ xs ys
value_eq (value.Unknown a b c) (value.Unknown x y z) = (a == x) && (b == y) && (c == z)
value_eq _ _ = false

-- ---- the test decides equality

-- two tests, each of its own fact
pub both : (r s : Bool) {P Q : Type 0} → Decides r P → Decides s Q → Decides (r && s) (P × Q)
both true s d e = (λ t. (d.0 refl, e.0 t), λ h. e.1 h.1)
both false s d e = (λ t. absurd (false≢true t), λ h. d.1 h.0)

-- a test of a fact decides an equivalent one
pub along : {r : Bool} {P Q : Type 0} → (P → Q) → (Q → P) → Decides r P → Decides r Q
along there back d = (λ t. there (d.0 t), λ q. d.1 (back q))

rational_Decides : (a b : Rational) → Decides (rational_eq a b) (a ≡ b)
rational_Decides a b =
    along {r = rational_eq a b} {P = (a.num ≡ b.num) × (a.denom ≡ b.denom)} {Q = a ≡ b}
    (λ h. same a.num b.num a.denom b.denom h.0 h.1)
    (λ e. (ap (λ (r : Rational). r.num) e, ap (λ (r : Rational). r.denom) e))
    (both (a.num == b.num) (a.denom == b.denom) (unsigned_Decides a.num b.num)
    (unsigned_Decides a.denom b.denom))
  where
    same : (n m d e : ℕ) → n ≡ m → d ≡ e → ◌≡◌ {A = Rational} (record { num = n; denom = d })
        (record { num = m; denom = e })
    same n m d e p q = rw (p, q) refl

srational_Decides : (a b : SRational) → Decides (srational_eq a b) (a ≡ b)
srational_Decides a b =
    along {r = srational_eq a b} {P = (a.num ≡ b.num) × (a.denom ≡ b.denom)} {Q = a ≡ b}
    (λ h. same a.num b.num a.denom b.denom h.0 h.1)
    (λ e. (ap (λ (r : SRational). r.num) e, ap (λ (r : SRational). r.denom) e))
    (both (int_eq a.num b.num) (int_eq a.denom b.denom) (signed_Decides a.num b.num)
    (signed_Decides a.denom b.denom))
  where
    same : (n m d e : ℤ) → n ≡ m → d ≡ e → ◌≡◌ {A = SRational} (record { num = n; denom = d })
        (record { num = m; denom = e })
    same n m d e p q = rw (p, q) refl

numbers_Decides : (xs ys : List ℕ) → Decides (pointwise ◌==◌ xs ys) (xs ≡ ys)
numbers_Decides xs ys = slice_eq-Decides unsigned_Decides xs ys (pointwise ◌==◌ xs ys) refl

texts_Decides : (xs ys : List (List ℕ)) → Decides (pointwise (pointwise ◌==◌) xs ys) (xs ≡ ys)
texts_Decides xs ys = slice_eq-Decides numbers_Decides xs ys (pointwise (pointwise ◌==◌) xs ys) refl

signed_numbers_Decides : (xs ys : List ℤ) → Decides (pointwise int_eq xs ys) (xs ≡ ys)
signed_numbers_Decides xs ys = slice_eq-Decides signed_Decides xs ys (pointwise int_eq xs ys) refl

rationals_Decides : (xs ys : List Rational) → Decides (pointwise rational_eq xs ys) (xs ≡ ys)
rationals_Decides xs ys = slice_eq-Decides rational_Decides xs ys (pointwise rational_eq xs ys) refl

srationals_Decides : (xs ys : List SRational) → Decides (pointwise srational_eq xs ys) (xs ≡ ys)
srationals_Decides xs ys = slice_eq-Decides srational_Decides xs ys (pointwise srational_eq xs ys)
    refl

-- a kind that keeps its list apart
under : {A : Type 0} (C : A → Value) (x y : A) (b : Bool) → (C x ≡ C y → x ≡ y) → Decides b (x ≡ y)
    → Decides b (C x ≡ C y)
under C x y b inj d = (λ t. ap C (d.0 t), λ e. d.1 (inj e))

undefined_Decides : (xs ys : List ℕ) (p q : ℕ) → Decides (pointwise ◌==◌ xs ys && (p == q))
    (value.Undefined xs p ≡ value.Undefined ys q)
undefined_Decides xs ys p q =
    let d = both (pointwise ◌==◌ xs ys) (p == q) (numbers_Decides xs ys) (unsigned_Decides p q) in
    (λ t. rw ((d.0 t).0, (d.0 t).1) refl, λ e. d.1 (cc, cc))

unknown_Decides : (a b c x y z : ℕ) → Decides ((a == x) && (b == y) && (c == z))
    (value.Unknown a b c ≡ value.Unknown x y z)
unknown_Decides a b c x y z =
    let d = both ((a == x) && (b == y)) (c == z) (both (a == x) (b == y) (unsigned_Decides a x)
    (unsigned_Decides b y)) (unsigned_Decides c z) in
    (λ t. rw ((d.0 t).0.0, (d.0 t).0.1, (d.0 t).1) refl, λ e. d.1 ((cc, cc), cc))

-- values that the test finds equal are equal, and the other way round
pub value_Decides : (a b : Value) → Decides (value_eq a b) (a ≡ b)
value_Decides (value.Byte xs) (value.Byte ys) =
    under (λ zs. value.Byte zs) xs ys _ (λ e. cc) (numbers_Decides xs ys)
value_Decides (value.Ascii xs) (value.Ascii ys) =
    under (λ zs. value.Ascii zs) xs ys _ (λ e. cc) (texts_Decides xs ys)
value_Decides (value.Short xs) (value.Short ys) =
    under (λ zs. value.Short zs) xs ys _ (λ e. cc) (numbers_Decides xs ys)
value_Decides (value.Long xs) (value.Long ys) =
    under (λ zs. value.Long zs) xs ys _ (λ e. cc) (numbers_Decides xs ys)
value_Decides (value.Rational xs) (value.Rational ys) =
    under (λ zs. value.Rational zs) xs ys _ (λ e. cc) (rationals_Decides xs ys)
value_Decides (value.SByte xs) (value.SByte ys) =
    under (λ zs. value.SByte zs) xs ys _ (λ e. cc) (signed_numbers_Decides xs ys)
value_Decides (value.Undefined xs p) (value.Undefined ys q) = undefined_Decides xs ys p q
value_Decides (value.SShort xs) (value.SShort ys) =
    under (λ zs. value.SShort zs) xs ys _ (λ e. cc) (signed_numbers_Decides xs ys)
value_Decides (value.SLong xs) (value.SLong ys) =
    under (λ zs. value.SLong zs) xs ys _ (λ e. cc) (signed_numbers_Decides xs ys)
value_Decides (value.SRational xs) (value.SRational ys) =
    under (λ zs. value.SRational zs) xs ys _ (λ e. cc) (srationals_Decides xs ys)
value_Decides (value.Float xs) (value.Float ys) =
    under (λ zs. value.Float zs) xs ys _ (λ e. cc) (numbers_Decides xs ys)
value_Decides (value.Double xs) (value.Double ys) =
    under (λ zs. value.Double zs) xs ys _ (λ e. cc) (numbers_Decides xs ys)
value_Decides (value.Unknown a b c) (value.Unknown x y z) = unknown_Decides a b c x y z
value_Decides _ _ = (λ t. absurd (false≢true t), λ e. cc)
