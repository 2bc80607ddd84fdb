-- Why a file was not changed.
use Rattle.std.specs.Prelude.{ℕ, ⊤}
use Rattle.exif_files.specs.Written.{FailedToRemove}
use Rattle.exif_files.specs.declared.changing.Failure.{Failure}
use Rattle.exif_files.specs.declared.changing.Failure.TheVariants.{Reading, Writing, Refused, OutOfMemory}

-- a fact of refused files
abbrev pub IfRefused : {R : Type 0} → Failure R → Type 0 → Type 0
IfRefused (Reading e) P = ⊤
IfRefused (Writing e) P = ⊤
IfRefused (Refused r) P = P
IfRefused OutOfMemory P = ⊤

-- a file of the program's own could not be removed
abbrev pub FailedInWriting : {R : Type 0} → Failure R → ℕ → ℕ → Type 0
FailedInWriting (Reading e) failures failures' = ⊥
FailedInWriting (Writing e) failures failures' = FailedToRemove e failures failures'
FailedInWriting (Refused r) failures failures' = ⊥
FailedInWriting OutOfMemory failures failures' = ⊥
