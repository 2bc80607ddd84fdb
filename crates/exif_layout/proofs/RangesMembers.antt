-- What holds of the first members of a list, up to all.
use Rattle.std.proofs.Common.{◌≡◌, ℕ, ◌+◌, ◌<◌, ◌≤◌, List, [], ◌∷◌, length, get_or, take, sym, All}
use Rattle.std.proofs.lemmas.List.{take_more, take_all}
use Rattle.std.proofs.lemmas.List.Elements.{All-nil, All-cons, All-append}

-- what holds of the first i members and of the next one holds of the first i + 1
pub all_more : {X : Type 0} (P : X → Type 0) (xs : List X) (i : ℕ) (x : X) → i < length xs → x ≡ get_or xs i x → P x → All P (take i xs) → All P (take (i + 1) xs)
all_more P xs i x h e p all =
    rw (take_more xs i x h, sym e) (All-append P (take i xs) (x ∷ []) all (All-cons P x [] p (All-nil P)))

-- what holds of the first i members holds of all where there are no more
pub all_taken : {X : Type 0} (P : X → Type 0) (xs : List X) (i : ℕ) → length xs ≤ i → All P (take i xs) → All P xs
all_taken P xs i h all = rw (take_all i xs h) at all
