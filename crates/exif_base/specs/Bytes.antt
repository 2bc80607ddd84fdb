-- Numbers and bytes at the offsets of data (TIFF 6.0, section 2).
use Rattle.std.specs.Prelude.{ℕ, zero, suc, ◌+◌, List, [], ◌∷◌, map, drop, take}

-- how bytes are read as numbers: of how many bytes, and which
abbrev pub Reading : Type 0
Reading = ℕ → List ℕ → ℕ

-- the number of n bytes at an offset of the data
abbrev pub number_at : Reading → ℕ → List ℕ → ℕ → ℕ
number_at number n bytes offset = number n (drop offset bytes)

-- n offsets, each so many bytes after the one before
abbrev pub spaced : ℕ → ℕ → ℕ → List ℕ
spaced offset unit zero = []
spaced offset unit (suc n) = offset ∷ spaced (offset + unit) unit n

-- count bytes from an offset on
abbrev pub bytes_at : ℕ → List ℕ → ℕ → List ℕ
bytes_at count bytes offset = take count (drop offset bytes)

-- count items, each of so many bytes, one after the other from an offset on
abbrev pub items_at : {X : Type 0} → (ℕ → X) → ℕ → ℕ → ℕ → List X
items_at item bytes_each count offset = map item (spaced offset bytes_each count)
