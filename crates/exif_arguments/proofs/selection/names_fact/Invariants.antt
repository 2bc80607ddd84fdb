use Rattle.std.proofs.Common.{◌≡◌, drop}
use Rattle.exif_arguments.specs.Choices.{names_fact}
use Rattle.exif_arguments.specs.Given.{texts}
use Rattle.exif_arguments.proofs.selection.names_fact.Given as goal

-- none of the names so far is that of the fact
abbrev pub invariant-loop-name : goal.invariant-loop-name
invariant-loop-name l =
    names_fact l.fact (texts l.names) ≡ names_fact l.fact (texts (drop l.name-index l.names))
