-- Properties with one more among them, by the lists that they are views of.
use Rattle.std.proofs.Common.{◌≡◌, ◌⊎◌, inl, inr, ℕ, ◌<◌, ◌≤◌, ◌-◌, ◌||◌, nat_lt, Bool, true, false, cond, List, map, length, take, drop, ap, sym, ◌∙◌, arith, if◌then◌else◌}
use Rattle.std.proofs.lemmas.List.{drop-map, length-drop, length-map, take-map, take_all}
use Rattle.std.proofs.lemmas.Bool.Decides.{nat_tests}
use Rattle.exif_xmp.specs.Properties.{PropertyView}
use Rattle.exif_xmp_set.specs.Contents.{Content, all_same, is_followed, is_inserted}

-- what decides
by : Bool → Bool → Bool → Bool → Bool
by a b same followed = if a || b then false else if same then followed else false

seen : {X : Type 0} (f : X → PropertyView) (at : ℕ) (given : Content) (old new : List X)
    → is_inserted at given (map f old) (map f new)
    ≡ by (nat_lt (length old) at) (nat_lt (length new) at) (all_same (map f (take at old)) (map f (take at new))) (is_followed given (map f (drop at old)) (map f (drop at new)))
unfolding is_inserted by
seen f at given old new =
    ap (λ n. by (nat_lt n at) (nat_lt (length (map f new)) at) (all_same (take at (map f old)) (take at (map f new))) (is_followed given (drop at (map f old)) (drop at (map f new)))) (length-map old f)
    ∙ (ap (λ n. by (nat_lt (length old) at) (nat_lt n at) (all_same (take at (map f old)) (take at (map f new))) (is_followed given (drop at (map f old)) (drop at (map f new)))) (length-map new f)
    ∙ (ap (λ ps. by (nat_lt (length old) at) (nat_lt (length new) at) (all_same ps (take at (map f new))) (is_followed given (drop at (map f old)) (drop at (map f new)))) (take-map f at old)
    ∙ (ap (λ ps. by (nat_lt (length old) at) (nat_lt (length new) at) (all_same (map f (take at old)) ps) (is_followed given (drop at (map f old)) (drop at (map f new)))) (take-map f at new)
    ∙ (ap (λ ps. by (nat_lt (length old) at) (nat_lt (length new) at) (all_same (map f (take at old)) (map f (take at new))) (is_followed given ps (drop at (map f new)))) (drop-map f at old)
    ∙ ap (λ ps. by (nat_lt (length old) at) (nat_lt (length new) at) (all_same (map f (take at old)) (map f (take at new))) (is_followed given (map f (drop at old)) ps)) (drop-map f at new)))))

short : (m n at : ℕ) (same followed : Bool) → (m < at) ⊎ (n < at) → by (nat_lt m at) (nat_lt n at) same followed ≡ false
unfolding by
short m n at same followed (inl h) = grind (arith, nat_tests)
short m n at same followed (inr h) = grind (arith, nat_tests)

long : (m n at : ℕ) (same followed : Bool) → at ≤ m → at ≤ n → by (nat_lt m at) (nat_lt n at) same followed ≡ cond same followed false
unfolding by
long m n at same followed h k = grind (arith, nat_tests)

-- a list has fewer
pub not_in : {X : Type 0} (f : X → PropertyView) (at : ℕ) (given : Content) (old new : List X) → (length old < at) ⊎ (length new < at)
    → is_inserted at given (map f old) (map f new) ≡ false
not_in f at given old new h = seen f at given old new ∙ short (length old) (length new) at _ _ h

rest : {X : Type 0} (n : ℕ) (l : List X) → take (length l - n) (drop n l) ≡ drop n l
rest n l = let e = length-drop n l in take_all (length l - n) (drop n l) (omega (arith, e))

-- both have as many, which are the same, or are not
pub in_same : {X : Type 0} (f : X → PropertyView) (at : ℕ) (given : Content) (old new : List X) → at ≤ length old → at ≤ length new
    → all_same (map f (take at old)) (map f (take at new)) ≡ true
    → is_inserted at given (map f old) (map f new)
    ≡ is_followed given (map f (take (length old - at) (drop at old))) (map f (take (length new - at) (drop at new)))
in_same f at given old new h k s =
    seen f at given old new ∙ (long (length old) (length new) at _ _ h k
    ∙ (ap (λ b. cond b (is_followed given (map f (drop at old)) (map f (drop at new))) false) s
    ∙ (ap (λ xs. is_followed given (map f xs) (map f (drop at new))) (sym (rest at old))
    ∙ ap (λ xs. is_followed given (map f (take (length old - at) (drop at old))) (map f xs)) (sym (rest at new)))))

pub in_other : {X : Type 0} (f : X → PropertyView) (at : ℕ) (given : Content) (old new : List X) → at ≤ length old → at ≤ length new
    → all_same (map f (take at old)) (map f (take at new)) ≡ false
    → is_inserted at given (map f old) (map f new) ≡ false
in_other f at given old new h k s =
    seen f at given old new ∙ (long (length old) (length new) at _ _ h k
    ∙ ap (λ b. cond b (is_followed given (map f (drop at old)) (map f (drop at new))) false) s)
