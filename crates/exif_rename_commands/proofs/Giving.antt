-- Moves that were not begun before.
use Rattle.std.proofs.Common.{◌≡◌, ℕ, ◌≤◌, List, Result, Ok, Err, true, subst, inr}
use Rattle.std.specs.Prelude.{◌⊎◌, IfOk, IfErr}
use Rattle.exif_files.specs.States.{State, Run}
use Rattle.exif_files.specs.Steps.{count_after}
use Rattle.exif_files.specs.declared.failure.WriteError.{WriteError}
use Rattle.exif_rename.specs.Moves.{IsCaused, IsMovedBy, IsNotMoved, IsWholeMove}
use Rattle.exif_rename.specs.declared.moving.Moved.{Moved}
use Rattle.exif_rename_commands.specs.Moving.{IsGivenBy}

-- a file was moved, where nothing was done before
pub given_after : (from to : List ℕ) (r : Result Moved WriteError) (a b c : List State) (n m k : ℕ) → b ≡ a → m ≡ n
    → IfOk r (λ moved. Run (IsWholeMove from to (count_after true m ≤ k)) (IsMovedBy from to moved) b c)
    → IfOk r (λ moved. IsGivenBy from to moved (count_after true n ≤ k) a c)
given_after from to (Ok moved) a b c n m k e f run =
    let P : List State → Type 0 = λ x. Run (IsWholeMove from to (count_after true n ≤ k)) (IsMovedBy from to moved) x c in
    let Q : ℕ → Type 0 = λ x. Run (IsWholeMove from to (count_after true x ≤ k)) (IsMovedBy from to moved) b c in
    inr (subst P e (subst Q f run))
given_after from to (Err error) a b c n m k e f run = tt

-- a file was not moved, where nothing was done before
pub not_given_after : (from to : List ℕ) (r : Result Moved WriteError) (a b c : List State) (n m k : ℕ) → b ≡ a → m ≡ n
    → IfErr r (λ error. Run (IsWholeMove from to (count_after true m ≤ k))
    (IsNotMoved from to (IsCaused error m k) (count_after true m ≤ k) (count_after true m ≤ k)) b c)
    → IfErr r (λ error. (c ≡ a) ⊎ Run (IsWholeMove from to (count_after true n ≤ k))
    (IsNotMoved from to (IsCaused error n k) (count_after true n ≤ k) (count_after true n ≤ k)) a c)
not_given_after from to (Ok moved) a b c n m k e f run = tt
not_given_after from to (Err error) a b c n m k e f run =
    let P : List State → Type 0 = λ x. Run (IsWholeMove from to (count_after true n ≤ k))
    (IsNotMoved from to (IsCaused error n k) (count_after true n ≤ k) (count_after true n ≤ k)) x c in
    let Q : ℕ → Type 0 = λ x. Run (IsWholeMove from to (count_after true x ≤ k))
    (IsNotMoved from to (IsCaused error x k) (count_after true x ≤ k) (count_after true x ≤ k)) b c in
    inr (subst P e (subst Q f run))
