-- A list about one of its members.
use Rattle.std.proofs.Common.{◌≡◌, ℕ, ◌+◌, ◌<◌, length, List, ◌∷◌, ◌++◌, take, drop, get_or, ap, sym, ◌∙◌}
use Rattle.std.proofs.lemmas.List.{take-append-drop, drop_more}

-- a list about one of its members
pub around : {X : Type 0} (xs : List X) (i : ℕ) (x d : X) → i < length xs → x ≡ get_or xs i d → xs ≡ take i xs ++ (x ∷ drop (i + 1) xs)
around xs i x d h e =
    sym (take-append-drop i xs) ∙ ap (λ r. take i xs ++ r) (drop_more xs i d h ∙ ap (λ y. y ∷ drop (i + 1) xs) (sym e))
