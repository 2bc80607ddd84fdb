-- Steps on known bytes of which only the first so many count.
use Rattle.std.specs.Prelude.{◌≡◌, ℕ, ◌+◌, List, length, take, drop, Option}
use Rattle.exif_base.specs.Told.{WhereTold}

-- P holds of the bytes that count: at most m of those left before, at most n of those left after;
-- the others stay, and as many bytes were taken as no longer count
abbrev pub Moves : Option (List ℕ) → ℕ → Option (List ℕ) → ℕ → (List ℕ → List ℕ → Type 0) → Type 0
Moves old m new n P =
    WhereTold old new (λ xs ys. P (take m xs) (take n ys) × (drop m xs ≡ drop n ys)
    × (length xs + n ≡ length ys + m))
