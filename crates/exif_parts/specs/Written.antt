-- A file that was written again.
use Rattle.std.specs.Prelude.{ℕ, List, ◌++◌}
use Rattle.exif_parts.specs.declared.rewritten.Ended.{Ended}
use Rattle.exif_parts.specs.declared.rewritten.Rewritten.{Rewritten}

-- its bytes, and how the file ended that it was made of
pub record Written : Type 0 where
  pub bytes : List ℕ
  pub ended : Ended

-- that of the program
abbrev pub written_of : Rewritten → Written
written_of file = record { bytes = file.bytes.items; ended = file.ended }

-- these bytes with a last few
abbrev pub finished : List ℕ → List ℕ → Ended → Written
finished bytes last ended = record { bytes = bytes ++ last; ended = ended }
