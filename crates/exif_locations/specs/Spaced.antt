-- Bytes that were made spaces.
use Rattle.std.specs.Prelude.{◌≡◌, ◌⊎◌, ℕ, List, [], ◌∷◌}

-- each byte is as it was, or a space
abbrev pub IsSpaced : List ℕ → List ℕ → Type 0
IsSpaced [] [] = Unit {0}
IsSpaced [] (b ∷ bs) = ⊥
IsSpaced (a ∷ as') [] = ⊥
IsSpaced (a ∷ as') (b ∷ bs) = ((b ≡ a) ⊎ (b ≡ 32)) × IsSpaced as' bs
