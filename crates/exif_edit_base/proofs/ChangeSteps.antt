-- Lists whose members are changed one after another.
use Rattle.std.proofs.Common.{◌≡◌, ◌≤◌, ◌<◌, ◌+◌, ℕ, suc, List, [], ◌∷◌, ◌++◌, length, map, get_or, set, take, drop, drop-cons, append_assoc, sym, ap, ◌∙◌, arith}
use Rattle.std.proofs.Math.ListN.{drop_of_length-le}
use Rattle.std.proofs.lemmas.List.{append-nil, drop-set-lt, take_more_set, take_all}

-- those that are left begin with the one at hand
pub left_step : {A : Type 0} (xs : List A) (i : ℕ) (x : A) → i < length xs → x ≡ get_or xs i x
    → drop i xs ≡ x ∷ drop (i + 1) xs
left_step xs i x h g =
    let n : i + 1 ≡ suc i = omega arith in
    rw n (drop-cons xs i x h ∙ ap (λ q. q ∷ drop (suc i) xs) (sym g))

-- one of them is changed
pub change_step : {A : Type 0} (f : A → A) (xs ys : List A) (i : ℕ) (x y : A) → i < length xs
    → x ≡ get_or xs i x → y ≡ f (get_or xs i x) → ys ≡ set xs i y
    → take (i + 1) ys ++ map f (drop (i + 1) ys) ≡ take i xs ++ map f (drop i xs)
change_step f xs ys i x y h g k e =
    let d = left_step xs i x h g in
    let v : y ≡ f x = k ∙ ap f (sym g) in
    let t : take (i + 1) (set xs i y) ≡ take i xs ++ y ∷ [] = take_more_set xs i y h in
    let r : drop (i + 1) (set xs i y) ≡ drop (i + 1) xs =
    drop-set-lt (i + 1) xs i y (omega arith) in
    rw (e, t, r, d, v) (append_assoc (take i xs) (f x ∷ []) (map f (drop (i + 1) xs)))

-- at the end no member is left to change, and the list is the whole result
pub change_end : {A : Type 0} (f : A → A) (xs all : List A) (i : ℕ) → length xs ≤ i
    → take i xs ++ map f (drop i xs) ≡ all → xs ≡ all
change_end f xs all i h e =
    let t : take i xs ≡ xs = take_all i xs h in
    let d : drop i xs ≡ [] = drop_of_length-le xs h in
    let k : xs ++ [] ≡ all = rw (t, d) at e in
    sym (append-nil xs) ∙ k
