-- Strict and lenient reading of files.
use Rattle.std.proofs.Common.{◌≡◌, ℕ, true, false, List, Option, Result, Ok, Err, ap, refl}
use Rattle.exif_types.specs.Refusals.{Refusal, ◌>>=◌}
use Rattle.exif_tiff.specs.Answers.{Answer, raw_answer, first_fault, StrictIsFirstFault}
use Rattle.exif_containers.specs.Container.{container_answer}
use Rattle.exif_reader.specs.Files.{StrictIsFirstFaultOfFile}

by_container : (limit : Option ℕ) → ((bytes : List ℕ) → StrictIsFirstFault limit bytes) → (container : Result (List ℕ) Refusal)
    → (container >>= λ bytes. Ok (raw_answer false limit bytes)) ≡ ((container >>= λ bytes. Ok (raw_answer true limit bytes)) >>= λ answer. Ok (first_fault answer))
by_container limit holds (Err r) = refl
by_container limit holds (Ok bytes) = ap (λ (answer : Answer). Ok answer) (holds bytes)

-- what holds of data holds of the files that hold them
pub first_fault_of_file : (limit : Option ℕ) (bytes : List ℕ) → ((bytes : List ℕ) → StrictIsFirstFault limit bytes) → StrictIsFirstFaultOfFile limit bytes
first_fault_of_file limit bytes holds = by_container limit holds (container_answer bytes)
