-- Cells one after the other, with a byte between each two.
use Rattle.std.proofs.Common.{◌≡◌, ℕ, suc, List, [], ◌∷◌, ◌++◌, ◌<◌, ◌+◌, length, take, get_or, sym, ap, ◌∙◌, arith, append_assoc, append-nil}
use Rattle.std.proofs.lemmas.Bool.Decides.{nat_tests}
use Rattle.std.proofs.lemmas.List.{flat_map_more, take_more, length-take}
use Rattle.std.specs.List.{flat_map}
use Rattle.exif_columns.specs.Lines.{gap_before}
use Rattle.exif_columns.specs.Texts.{separated}

-- what is before a cell that is not the first
later_gap : (n : ℕ) → gap_before (suc n) ≡ 9 ∷ []
later_gap n = grind (arith, nat_tests)

-- one item behind others
separated_behind : {X : Type 0} (text : X → List ℕ) (xs : List X) (x : X)
    → (separated 9 text xs ++ gap_before (length xs)) ++ text x ≡ separated 9 text (xs ++ (x ∷ []))
separated_behind text [] x = sym (append-nil (text x))
separated_behind {X = X} text (y ∷ ys) x =
    let f : X → List ℕ = λ it. 9 ∷ text it in
    ap (λ gap. ((text y ++ flat_map f ys) ++ gap) ++ text x) (later_gap (length ys))
    ∙ (append_assoc (text y ++ flat_map f ys) (9 ∷ []) (text x) ∙ flat_map_more f (text y) ys x)

-- one more
pub separated_more : {X : Type 0} (text : X → List ℕ) (xs : List X) (i : ℕ) (d : X) → i < length xs
    → (separated 9 text (take i xs) ++ gap_before i) ++ text (get_or xs i d) ≡ separated 9 text (take (i + 1) xs)
separated_more text xs i d within =
    let counted : length (take i xs) ≡ i = omega (arith, length-take i xs) in
    ap (λ n. (separated 9 text (take i xs) ++ gap_before n) ++ text (get_or xs i d)) (sym counted)
    ∙ (separated_behind text (take i xs) (get_or xs i d) ∙ ap (separated 9 text) (sym (take_more xs i d within)))
