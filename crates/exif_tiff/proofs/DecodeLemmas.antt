-- Steps along lists of items and of texts in TIFF data.
use Rattle.std.proofs.Common.{◌≡◌, ℕ, suc, ◌+◌, ◌-◌, ◌*◌, ◌<◌, ◌==◌, Bool, true, false, cond, List, ◌∷◌, ◌++◌, [], append_assoc, refl, ◌∙◌, ap, sym, subst, arith, length, ◌≢◌}
use Rattle.std.specs.List.{slice_split, onto_first}
use Rattle.std.proofs.lemmas.List.Splits.{length-slice_split}
use Rattle.std.proofs.Math.Nat.{mul-suc}
use Rattle.exif_base.specs.Bytes.{items_at}
use Rattle.std.proofs.lemmas.Bool.Decides.{nat_tests}
use Rattle.exif_types.specs.Texts.{texts, without_empty_last}

-- the items that are left after i begin with the one at hand
pub items_at_step : {X : Type 0} (item : ℕ → X) (unit count i p : ℕ) → i < count → items_at item unit (count - i) p ≡ item p ∷ items_at item unit (count - (i + 1)) (p + unit)
items_at_step item unit count i p h =
    let e : count - i ≡ suc (count - (i + 1)) = omega arith in rw e refl

-- and take the space of that one and of the rest
pub room_step : (unit count i : ℕ) → i < count → unit * (count - i) ≡ unit + unit * (count - (i + 1))
room_step unit count i h =
    let e : count - i ≡ suc (count - (i + 1)) = omega arith in
    let m : unit * suc (count - (i + 1)) ≡ unit * (count - (i + 1)) + unit = mul-suc unit (count - (i + 1)) in
    ap (λ k. unit * k) e ∙ (m ∙ omega arith)

-- what is read goes from the items that are left to those that were read
pub push_step : {X : Type 0} (item : ℕ → X) (unit count i p w : ℕ) (old new all : List X) (x : X) → i < count → w ≡ unit → x ≡ item p → new ≡ old ++ x ∷ [] → old ++ items_at item unit (count - i) p ≡ all → new ++ items_at item unit (count - (i + 1)) (p + w) ≡ all
push_step item unit count i p w old new all x h ew ex en e =
    rw (en, ex, ew, append_assoc) (rw (items_at_step item unit count i p h) at e)

-- ---- texts

-- the parts of bytes at their zero bytes
abbrev pub split : List ℕ → List (List ℕ)
split = slice_split (λ b. b == 0)

-- an empty text behind others is left out
pub drops_last : (ts : List (List ℕ)) → without_empty_last (ts ++ [] ∷ []) ≡ ts
drops_last [] = refl
drops_last (t ∷ []) = refl
drops_last (t ∷ u ∷ ts) = ap (λ us. t ∷ us) (drops_last (u ∷ ts))

-- a part behind the others stays there where the first grows
behind : (b : Bool) (x : ℕ) (ts : List (List ℕ)) → 0 < length ts
    → cond b ([] ∷ (ts ++ [] ∷ [])) (onto_first x (ts ++ [] ∷ [])) ≡ cond b ([] ∷ ts) (onto_first x ts) ++ [] ∷ []
behind b x [] some = absurd (omega arith)
behind true x (t ∷ ts) some = refl
behind false x (t ∷ ts) some = refl

splits_ended : (xs : List ℕ) → split (xs ++ 0 ∷ []) ≡ split xs ++ [] ∷ []
splits_ended [] = refl
splits_ended (x ∷ xs) =
    ap (λ ts. cond (x == 0) ([] ∷ ts) (onto_first x ts)) (splits_ended xs)
    ∙ behind (x == 0) x (split xs) (omega (arith, length-slice_split (λ b. b == 0) xs))

-- the texts of bytes that end with a zero byte
pub texts_ended : (bs xs : List ℕ) (x : ℕ) → bs ≡ xs ++ x ∷ [] → x ≡ 0 → split xs ≡ texts bs
texts_ended bs xs x is zero =
    sym (ap texts is ∙ (ap (λ y. texts (xs ++ y ∷ [])) zero ∙ (ap without_empty_last (splits_ended xs) ∙ drops_last (split xs))))

-- texts of which the last is not empty stay as they are where the first grows
kept_onto : (b : Bool) (x : ℕ) (ts : List (List ℕ)) → 0 < length ts → without_empty_last ts ≡ ts
    → without_empty_last (cond b ([] ∷ ts) (onto_first x ts)) ≡ cond b ([] ∷ ts) (onto_first x ts)
kept_onto b x [] some e = absurd (omega arith)
kept_onto true x (t ∷ ts) some e = ap (λ us. [] ∷ us) e
kept_onto false x (t ∷ []) some e =
    let full : (length (x ∷ t) == 0) ≡ false = grind (arith, nat_tests) in rw full refl
kept_onto false x (t ∷ u ∷ ts) some e =
    let tail : without_empty_last (u ∷ ts) ≡ u ∷ ts = cc in ap (λ us. (x ∷ t) ∷ us) tail

splits_full : (xs : List ℕ) (x : ℕ) → x ≢ 0 → without_empty_last (split (xs ++ x ∷ [])) ≡ split (xs ++ x ∷ [])
splits_full [] x n = let e : (x == 0) ≡ false = grind (arith, nat_tests) in rw e refl
splits_full (y ∷ xs) x n =
    kept_onto (y == 0) y (split (xs ++ x ∷ [])) (omega (arith, length-slice_split (λ b. b == 0) (xs ++ x ∷ []))) (splits_full xs x n)

-- the texts of bytes that end otherwise
pub texts_full : (bs xs : List ℕ) (x : ℕ) → bs ≡ xs ++ x ∷ [] → x ≢ 0 → split bs ≡ texts bs
texts_full bs xs x is full = subst (λ ys. split ys ≡ texts ys) (sym is) (sym (splits_full xs x full))
