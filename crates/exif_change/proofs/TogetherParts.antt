-- The last of what was left undone.
use Rattle.std.proofs.Common.{◌≡◌, ◌<◌, ◌-◌, ℕ, List, [], ◌∷◌, length, map, drop, Option, refl, arith}
use Rattle.std.proofs.lemmas.List.{length-drop}
use Rattle.exif_change.specs.Changed.{Undone}
use Rattle.exif_change.specs.Together.{together_len}

one : {X : Type 0} (f : X → Option Undone) (xs : List X) → length xs ≡ 1 → together_len (map f xs) ≡ 1
one f [] e = absurd cc
one f (x ∷ []) e = refl
one f (x ∷ y ∷ xs) e = absurd cc

pub last_one : {X : Type 0} (f : X → Option Undone) (xs : List X) (n : ℕ) → 0 < n → n ≡ length xs → together_len (map f (drop (n - 1) xs)) ≡ 1
last_one f xs n some is = let e = length-drop (n - 1) xs in one f (drop (n - 1) xs) (omega (arith, e, is, some))
