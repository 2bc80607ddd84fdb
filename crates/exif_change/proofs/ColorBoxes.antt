-- Where a HEIF file has a box of colours.
use Rattle.std.proofs.Common.{◌≡◌, ◌<◌, ◌+◌, ℕ, suc, false, List, ◌∷◌, length, drop, drop-cons, get_or, refl, subst, arith}
use Rattle.exif_change.specs.Profiles.{begins_color, has_color_box}

-- where bytes do not begin with one, it is behind the first of them
not_first : (b : ℕ) (rest : List ℕ) → begins_color (b ∷ rest) ≡ false
    → has_color_box (b ∷ rest) ≡ has_color_box rest
not_first b rest none = rw none refl

-- the same of the bytes from an offset on
pub not_here : (file : List ℕ) (at : ℕ) → at < length file → begins_color (drop at file) ≡ false
    → has_color_box (drop at file) ≡ has_color_box (drop (at + 1) file)
not_here file at within none =
    let next : at + 1 ≡ suc at = omega arith in
    let there : drop at file ≡ get_or file at 0 ∷ drop (suc at) file = drop-cons file at 0 within in
    rw (next, there) (not_first (get_or file at 0) (drop (suc at) file)
    (subst (λ (t : List ℕ). begins_color t ≡ false) there none))
