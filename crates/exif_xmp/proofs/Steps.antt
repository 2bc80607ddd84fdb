-- Walks of steps that fail as the code does.
use Rattle.std.proofs.Common.{◌≡◌, ℕ, ◌-◌, ◌<◌, List, length, Result, ap}
use Rattle.exif_xml.specs.Refusals.{◌>>=◌, Stepped, walk}
use Rattle.exif_xml.proofs.Walks.{walk_faulty}
use Rattle.exif_xmp.specs.declared.fault.Refusal.{Refusal}
use Rattle.exif_xmp.specs.declared.fault.ReadError.{ReadError}
use Rattle.exif_xmp.specs.declared.fault.ReadError.TheVariants as errors
use Rattle.exif_xmp.specs.Refusals.{Fails}

-- a step that is refused ends a walk, by an error of the code
pub walk_fails : {S : Type 0} (cut : ℕ → Refusal) (step : ℕ → S → List ℕ → Result (Stepped S) Refusal) (n i offset : ℕ) (s : S) (rest : List ℕ) (e : ReadError) (total : Result S Refusal) → i < n → 0 < length rest → Fails e (step offset s rest)
    → walk cut step (n - i) offset s rest ≡ total → Fails e total
walk_fails cut step n i offset s rest errors.OutOfMemory total h some e w = tt
walk_fails cut step n i offset s rest (errors.Refused r) total h some e w = walk_faulty cut step n i offset s rest r total h some e w

-- an error goes on
pub fails_on : {A B : Type 0} (e : ReadError) (r : Result A Refusal) (f : A → Result B Refusal) → Fails e r → Fails e (r >>= f)
fails_on errors.OutOfMemory r f h = tt
fails_on (errors.Refused x) r f h = ap (λ q. q >>= f) h
