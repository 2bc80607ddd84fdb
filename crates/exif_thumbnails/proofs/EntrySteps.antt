-- The steps over the entries of a directory.
use Rattle.std.proofs.Common.{◌≡◌, ◌<◌, ◌+◌, ◌-◌, ◌==◌, ℕ, Bool, false, ◌∷◌, Option, Some, if◌then◌else◌, sym, ap, ◌∙◌, arith}
use Rattle.std.proofs.lemmas.Bool.Decides.{nat_tests}
use Rattle.std.specs.List.{find}
use Rattle.exif_base.specs.Bytes.{spaced}
use Rattle.exif_tiff.proofs.ParserRuns.{spaced_step}

-- a number that is another one than the wanted
other : (m n wanted : ℕ) → m ≡ n → (m ≡ wanted → ⊥) → (n == wanted) ≡ false
other m n wanted e h = grind (arith, nat_tests)

-- an entry of another tag is passed
pub entry_passed : (tag_at : ℕ → ℕ) (tag n i p m : ℕ) (found : Option ℕ) → i < n → m ≡ tag_at p
    → (m ≡ tag → ⊥) → find (λ e. tag_at e == tag) (spaced p 12 (n - i)) ≡ found
    → find (λ e. tag_at e == tag) (spaced (p + 12) 12 (n - (i + 1))) ≡ found
entry_passed tag_at tag n i p m found h e differs f =
    let test : ℕ → Bool = λ e. tag_at e == tag in
    let rest = find test (spaced (p + 12) 12 (n - (i + 1))) in
    let k : find test (p ∷ spaced (p + 12) 12 (n - (i + 1))) ≡ found =
    rw (spaced_step n i p 12 h) at f in
    sym (ap (λ b. if b then Some p else rest) (other m (tag_at p) tag e differs)) ∙ k
