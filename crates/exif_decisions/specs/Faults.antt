-- Faults that were skipped.
use Rattle.std.specs.Prelude.{ℕ, ◌==◌, List, ◌++◌, codes, if◌then◌else◌}
use Rattle.std.specs.Fmt.{decimal}

-- how many, as a message says it
abbrev pub faults_text : ℕ → List ℕ
faults_text count =
    if count == 1 then codes "1 fault was skipped" else
    decimal count ++ codes " faults were skipped"
