use Rattle.std.proofs.Common.{◌≡◌, drop}
use Rattle.exif_arguments.specs.Choices.{are_facts}
use Rattle.exif_arguments.specs.Given.{texts}
use Rattle.exif_arguments.proofs.selection.are_facts.Given as goal

-- each of the names so far is that of a fact
abbrev pub invariant-loop-name : goal.invariant-loop-name
invariant-loop-name l =
    are_facts (texts l.names) ≡ are_facts (texts (drop l.name-index l.names))
