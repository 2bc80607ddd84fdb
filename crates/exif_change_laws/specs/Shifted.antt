-- What is read of files whose dates were moved and moved back.
use Rattle.std.specs.Prelude.{ℕ, Bool, List, None, Result, Ok}
use Rattle.exif_types.specs.Refusals.{Refusal, ◌>>=◌}
use Rattle.exif_tiff.specs.Answers.{Answer, raw_answer}
use Rattle.exif_containers.specs.Container.{container_answer}

-- all that is read of a file, in both modes and without a limit: its fields and its faults, in
-- order
abbrev pub all_read : Bool → List ℕ → Result Answer Refusal
all_read lenient file = container_answer file >>= λ bytes. Ok (raw_answer lenient None bytes)
