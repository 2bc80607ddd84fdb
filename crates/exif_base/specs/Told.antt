-- What reads and writes do to the bytes of a reader or a writer, where those are known.
use Rattle.std.specs.Prelude.{◌≡◌, ◌≢◌, ℕ, ◌<◌, ◌≤◌, List, ◌++◌, length, drop, ⊤, Option, None, Some}
use Rattle.std.specs.Option.{option_map}
use Rattle.std.specs.List.{All}
use Rattle.std.specs.Io.KnownBytes.{Consumes}

-- P holds of the bytes known before and after; known bytes stay known
abbrev pub WhereTold : Option (List ℕ) → Option (List ℕ) → (List ℕ → List ℕ → Type 0) → Type 0
WhereTold None new P = ⊤
WhereTold (Some xs) None P = ⊥
WhereTold (Some xs) (Some ys) P = P xs ys

-- the first n bytes are gone
abbrev pub Skips : Option (List ℕ) → Option (List ℕ) → ℕ → Type 0
Skips old new n = WhereTold old new (λ xs ys. (n ≤ length xs) × (ys ≡ drop n xs))

-- fewer than n bytes are left
abbrev pub HasFewer : Option (List ℕ) → ℕ → Type 0
HasFewer None n = ⊤
HasFewer (Some xs) n = length xs < n

-- all the bytes left were added at the end of a list
abbrev pub TakesAll : Option (List ℕ) → List ℕ → List ℕ → Type 0
TakesAll None old new = ⊤
TakesAll (Some xs) old new = new ≡ old ++ xs

-- n bytes were taken, and added at the end of a list
abbrev pub IsFetchedOnto : Option (List ℕ) → Option (List ℕ) → List ℕ → List ℕ → ℕ
    → Type 0
IsFetchedOnto before after old new n = (bytes : List ℕ) × Consumes before after bytes
    × (length bytes ≡ n) × (new ≡ old ++ bytes)

-- known bytes lose n at the front, none of which is `stop`
abbrev pub PassesOthers : Option (List ℕ) → Option (List ℕ) → ℕ → ℕ → Type 0
PassesOthers old new stop n = (bytes : List ℕ) × Consumes old new bytes
    × (length bytes ≡ n) × All (λ b. b ≢ stop) bytes

-- the bytes from an offset of the stream on, where both are known
abbrev pub left_behind : Option ℕ → Option (List ℕ) → Option (List ℕ)
left_behind None bytes = None
left_behind (Some offset) bytes = option_map (drop offset) bytes
