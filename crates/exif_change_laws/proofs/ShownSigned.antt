-- The fraction with sign that a decimal is: how large it is.
use Rattle.std.proofs.Common.{◌≡◌, ◌*◌, ◌*ℤ◌, ◌%◌, ◌^◌, ◌∙◌, ℕ, ℤ, zero, suc, pos, negsuc, neg_ℤ, unsigned_abs, true, not, if◌then◌else◌, refl, sym, ap}
use Rattle.std.proofs.Math.Nat.{zero-mul}
use Rattle.exif_text.specs.Decimal.{signs_differ}
use Rattle.exif_text.specs.declared.rational.SRational.{SRational as SignedFraction}
use Rattle.exif_change_laws.specs.Shown.{as_shown_signed, shown_fraction, with_sign}
use Rattle.exif_change_laws.proofs.ShownAgain.{not_negative, positive_denom, same_number}

-- products of a number and its opposite
opposite_positive : (m b : ℕ) → neg_ℤ (pos m) *ℤ pos b ≡ neg_ℤ (pos (m * b))
opposite_positive zero b = ap pos (zero-mul b) ∙ sym (ap (λ n. neg_ℤ (pos n)) (zero-mul b))
opposite_positive (suc m) b = refl

opposite_negative : (m b : ℕ) → neg_ℤ (pos m) *ℤ negsuc b ≡ pos (m * suc b)
opposite_negative zero b = ap (λ n. neg_ℤ (pos n)) (zero-mul (suc b)) ∙ sym (ap pos (zero-mul (suc b)))
opposite_negative (suc m) b = refl

-- a positive number over a negative one
negative_denom : (a b : ℕ) → signs_differ (pos a) (negsuc b) ≡ true
negative_denom a b = ap (λ t. if t then not true else true) (not_negative a)

-- equal products of magnitudes, with their signs
signed_product : (num denom : ℤ) (m d : ℕ) → m * unsigned_abs denom ≡ unsigned_abs num * d
    → with_sign num denom m *ℤ denom ≡ num *ℤ pos d
signed_product (pos a) (pos b) m d e =
    ap (λ t. (if t then neg_ℤ (pos m) else pos m) *ℤ pos b) (positive_denom (pos a) b ∙ not_negative a)
    ∙ ap pos e
signed_product (pos a) (negsuc b) m d e =
    ap (λ t. (if t then neg_ℤ (pos m) else pos m) *ℤ negsuc b) (negative_denom a b)
    ∙ (opposite_negative m b ∙ ap pos e)
signed_product (negsuc a) (pos b) m d e =
    ap (λ t. (if t then neg_ℤ (pos m) else pos m) *ℤ pos b) (positive_denom (negsuc a) b)
    ∙ (opposite_positive m b ∙ ap (λ n. neg_ℤ (pos n)) e)
signed_product (negsuc a) (negsuc b) m d e = ap (λ n. neg_ℤ (pos n)) e

pub same_signed : (r : SignedFraction) → unsigned_abs r.num * 10 ^ 9 % unsigned_abs r.denom ≡ 0
    → (as_shown_signed r).num *ℤ r.denom ≡ r.num *ℤ (as_shown_signed r).denom
same_signed r h =
    let f = shown_fraction (unsigned_abs r.num) (unsigned_abs r.denom) in
    signed_product r.num r.denom f.num f.denom (same_number (unsigned_abs r.num) (unsigned_abs r.denom) h)
