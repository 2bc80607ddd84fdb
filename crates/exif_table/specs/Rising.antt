-- A table in the order of its keys.
use Rattle.std.specs.Prelude.{ℕ, ◌+◌, Bool, true, ◌&&◌, List, [], ◌∷◌, nat_le}

-- each key is at least low, and above the key before it
abbrev pub rises_from : {X : Type 0} → (X → ℕ) → ℕ → List X → Bool
rises_from key low [] = true
rises_from key low (x ∷ xs) = nat_le low (key x) && rises_from key (key x + 1) xs

-- each key is above the key before it
abbrev pub is_rising : {X : Type 0} → (X → ℕ) → List X → Bool
is_rising key xs = rises_from key 0 xs
