-- Steps that may be refused, and walks of them.
use Rattle.std.specs.Prelude.{◌≡◌, ℕ, zero, suc, ◌+◌, List, [], ◌∷◌, drop, Result, Ok, Err}
use Rattle.exif_xml.specs.declared.fault.Fault.{Fault}
use Rattle.exif_xml.specs.declared.fault.Fault.TheVariants.{Truncated}
use Rattle.exif_xml.specs.declared.fault.Refusal.{Refusal}
use Rattle.exif_xml.specs.declared.fault.ReadError.{ReadError}
use Rattle.exif_xml.specs.declared.fault.ReadError.TheVariants as errors

-- a step, and then the next, unless it is refused
infixl 10 ◌>>=◌
abbrev pub ◌>>=◌ : {A B E : Type 0} → Result A E → (A → Result B E) → Result B E
(Ok x) >>= f = f x
(Err e) >>= f = Err e

-- a fault at an offset
abbrev pub located : {A : Type 0} → ℕ → Result A Fault → Result A Refusal
located offset (Ok x) = Ok x
located offset (Err f) = Err (record { fault = f; offset = offset })

abbrev pub truncated : ℕ → Refusal
truncated offset = record { fault = Truncated; offset = offset }

-- an error of a call, where a definition answers `read`
abbrev pub Fails : {Y : Type 0} → ReadError → Result Y Refusal → Type 0
Fails errors.OutOfMemory read = Unit {0}
Fails (errors.Refused r) read = read ≡ Err r

-- a call answers, seen by a view, what a definition answers, unless memory runs out
abbrev pub Gives : {X Y : Type 0} → (X → Y) → Result X ReadError → Result Y Refusal → Type 0
Gives view (Ok x) read = read ≡ Ok (view x)
Gives view (Err e) read = Fails e read

-- how many bytes a step took, and the state behind it
pub record Stepped (S : Type 0) : Type 0 where
  pub len : ℕ
  pub state : S

-- at most n steps over an input, each at the beginning of what those before left of it; where bytes
-- are left behind the last, the answer is the refusal `cut` of their offset
unfoldable pub walk : {S E : Type 0} → (ℕ → E) → (ℕ → S → List ℕ → Result (Stepped S) E) → ℕ → ℕ → S
    → List ℕ → Result S E
walk cut step n offset s [] = Ok s
walk cut step zero offset s (b ∷ bs) = Err (cut offset)
walk cut step (suc n) offset s (b ∷ bs) =
    step offset s (b ∷ bs) >>= λ t. walk cut step n (offset + t.len) t.state (drop t.len (b ∷ bs))
