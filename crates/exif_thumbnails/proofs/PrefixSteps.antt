-- What is said of bytes that are known.
use Rattle.std.proofs.Common.{ℕ, List, Option, None, Some, IfSome}

-- what follows from a fact of known bytes
pub along : (o : Option (List ℕ)) (P Q : List ℕ → Type 0) → ((xs : List ℕ) → P xs → Q xs)
    → IfSome o P → IfSome o Q
along None P Q f h = tt
along (Some xs) P Q f h = f xs h
