-- Pieces that are appended one after another.
use Rattle.std.proofs.Common.{◌≡◌, ℕ, List, ◌++◌, OnOk, Result, append_assoc, ◌∙◌}
use Rattle.std.proofs.lemmas.Result.{on_ok_weaker}

three : (o a b x p q : List ℕ) → p ≡ o ++ a → q ≡ p ++ b → q ++ x ≡ o ++ (a ++ (b ++ x))
three o a b x p q h i = rw (i, h) (simp append_assoc)

four : (o a b c x p q r : List ℕ) → p ≡ o ++ a → q ≡ p ++ b → r ≡ q ++ c
    → r ++ x ≡ o ++ (a ++ (b ++ (c ++ x)))
four o a b c x p q r h i j = rw (j, i, h) (simp append_assoc)

-- three pieces, the last by a call that may fail
pub three_pieces : {T E : Type 0} (answer : Result T E) (o a b x p q z : List ℕ)
    → p ≡ o ++ a → q ≡ p ++ b → OnOk answer (z ≡ q ++ x) → OnOk answer (z ≡ o ++ (a ++ (b ++ x)))
three_pieces answer o a b x p q z h i =
    on_ok_weaker answer (λ (e : z ≡ q ++ x). e ∙ three o a b x p q h i)

-- four pieces
pub four_pieces : {T E : Type 0} (answer : Result T E) (o a b c x p q r z : List ℕ)
    → p ≡ o ++ a → q ≡ p ++ b → r ≡ q ++ c → OnOk answer (z ≡ r ++ x)
    → OnOk answer (z ≡ o ++ (a ++ (b ++ (c ++ x))))
four_pieces answer o a b c x p q r z h i j =
    on_ok_weaker answer (λ (e : z ≡ r ++ x). e ∙ four o a b c x p q r h i j)
