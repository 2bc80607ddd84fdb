-- The loop over the boxes of a file: after i of at most n boxes.
use Rattle.std.proofs.Common.{◌≡◌, ℕ, suc, ◌+◌, ◌-◌, ◌^◌, ◌<◌, ◌≤◌, List, Option, Some, None, IfSome, Result, Ok, ap, ◌∙◌, sym, subst, arith}
use Rattle.exif_base.specs.Told.{WhereTold}
use Rattle.exif_types.specs.Failures.{Failure}
use Rattle.exif_types.specs.Refusals.{Refusal, Fails}
use Rattle.exif_formats.specs.Cr3.{held_in}
use Rattle.exif_formats.specs.Cr3Steps.{IsFoundIn, held_from, within}
use Rattle.exif_formats.specs.declared.raw.cr3.walk.Held.{Held}

-- i boxes were skipped, and the others answer
abbrev pub Walked : List ℕ → List ℕ → ℕ → ℕ → Option (List ℕ) → Option (List ℕ) → Type 0
Walked name usertype n i a b = WhereTold a b (λ xs ys. within name usertype n xs ≡ within name usertype (n - i) ys)

-- no box was skipped yet
pub walk_start : (name usertype : List ℕ) (n i : ℕ) (a : Option (List ℕ)) → i ≡ 0 → Walked name usertype n i a a
walk_start name usertype n i None z = tt
walk_start name usertype n i (Some xs) z = let same : n ≡ n - i = omega arith in ap (λ m. within name usertype m xs) same

-- one more box was skipped
pub walk_on : (name usertype : List ℕ) (n i j : ℕ) (a b c : Option (List ℕ)) → i < n → j ≡ i + 1 → Walked name usertype n i a b
    → WhereTold b c (λ ys zs. (m : ℕ) → within name usertype (suc m) ys ≡ within name usertype m zs) → Walked name usertype n j a c
walk_on name usertype n i j None b c l e h k = tt
walk_on name usertype n i j (Some xs) None c l e h k = absurd h
walk_on name usertype n i j (Some xs) (Some ys) None l e h k = absurd k
walk_on name usertype n i j (Some xs) (Some ys) (Some zs) l e h k =
    let next : n - i ≡ suc (n - j) = omega arith in h ∙ ap (λ m. within name usertype m ys) next ∙ k (n - j)

-- what holds of the next box, and those behind it, holds of all
walk_holds : (name usertype : List ℕ) (P : Result (Option (List ℕ)) Refusal → Type 0) (n i : ℕ) (a b : Option (List ℕ)) → i < n → Walked name usertype n i a b
    → IfSome b (λ ys. (m : ℕ) → P (within name usertype (suc m) ys)) → IfSome a (λ xs. P (within name usertype n xs))
walk_holds name usertype P n i None b l h k = tt
walk_holds name usertype P n i (Some xs) None l h k = absurd h
walk_holds name usertype P n i (Some xs) (Some ys) l h k =
    let next : suc (n - (i + 1)) ≡ n - i = omega arith in
    subst P (ap (λ m. within name usertype m ys) next ∙ sym h) (k (n - (i + 1)))

-- all boxes were skipped
walk_end : (name usertype : List ℕ) (n i : ℕ) (a b : Option (List ℕ)) → n ≤ i → Walked name usertype n i a b → IfSome a (λ xs. within name usertype n xs ≡ Ok None)
walk_end name usertype n i None b l h = tt
walk_end name usertype n i (Some xs) None l h = absurd h
walk_end name usertype n i (Some xs) (Some ys) l h = let none : n - i ≡ 0 = omega arith in h ∙ ap (λ m. within name usertype m ys) none

-- the next box is found
walk_found : (name usertype : List ℕ) (len : Option ℕ) (n i : ℕ) (a b c : Option (List ℕ)) → i < n → Walked name usertype n i a b
    → WhereTold b c (λ ys zs. (m : ℕ) → within name usertype (suc m) ys ≡ held_from len zs) → WhereTold a c (λ xs zs. within name usertype n xs ≡ held_from len zs)
walk_found name usertype len n i None b c l h k = tt
walk_found name usertype len n i (Some xs) None c l h k = absurd h
walk_found name usertype len n i (Some xs) (Some ys) None l h k = absurd k
walk_found name usertype len n i (Some xs) (Some ys) (Some zs) l h k =
    let next : n - i ≡ suc (n - (i + 1)) = omega arith in h ∙ ap (λ m. within name usertype m ys) next ∙ k (n - (i + 1))

-- what holds of bytes, where they are known, holds of them in another way
pub along_known : (a : Option (List ℕ)) (P Q : List ℕ → Type 0) → ((xs : List ℕ) → P xs → Q xs) → IfSome a P → IfSome a Q
along_known None P Q f h = tt
along_known (Some xs) P Q f h = f xs h

-- ---- the answer of the loop

-- the next box is refused
pub box_fails : (name usertype : List ℕ) (e : Failure) (i : ℕ) (a b : Option (List ℕ)) → i < 2 ^ 64 - 1 → Walked name usertype (2 ^ 64 - 1) i a b
    → IfSome b (λ ys. (m : ℕ) → Fails e (within name usertype (suc m) ys)) → IfSome a (λ xs. Fails e (held_in name usertype xs))
unfolding held_in
box_fails name usertype e i a b l h k = walk_holds name usertype (Fails e) (2 ^ 64 - 1) i a b l h k

-- the next box is the one that is sought
pub box_found : (name usertype : List ℕ) (held : Held) (i : ℕ) (a b c : Option (List ℕ)) → i < 2 ^ 64 - 1 → Walked name usertype (2 ^ 64 - 1) i a b
    → WhereTold b c (λ ys zs. (m : ℕ) → within name usertype (suc m) ys ≡ held_from held.len zs) → IsFoundIn name usertype (Some held) a c
unfolding held_in
box_found name usertype held i a b c l h k = walk_found name usertype held.len (2 ^ 64 - 1) i a b c l h k

-- no box of the type follows
pub box_absent : (name usertype : List ℕ) (i : ℕ) (a b c : Option (List ℕ)) → i < 2 ^ 64 - 1 → Walked name usertype (2 ^ 64 - 1) i a b
    → IfSome b (λ ys. (m : ℕ) → within name usertype (suc m) ys ≡ Ok None) → IsFoundIn name usertype None a c
unfolding held_in
box_absent name usertype i a b c l h k = walk_holds name usertype (λ t. t ≡ Ok None) (2 ^ 64 - 1) i a b l h k

-- all boxes that are read were skipped
pub box_ended : (name usertype : List ℕ) (i : ℕ) (a b c : Option (List ℕ)) → 2 ^ 64 - 1 ≤ i → Walked name usertype (2 ^ 64 - 1) i a b → IsFoundIn name usertype None a c
unfolding held_in
box_ended name usertype i a b c l h = walk_end name usertype (2 ^ 64 - 1) i a b l h
