use Rattle.std.proofs.Common.{◌≡◌, Ok, drop, map}
use Rattle.exif_assign.specs.Assigning.{parts_of}
use Rattle.exif_arguments.specs.Changes.{before_values, values_in}
use Rattle.exif_arguments.specs.Given.{texts}
use Rattle.exif_arguments.proofs.changes.values_in.Given as goal

-- the values so far are before those of the words that are left
abbrev pub invariant-loop-word : goal.invariant-loop-word
invariant-loop-word l =
    values_in (texts l.words) ≡ before_values (Ok (map parts_of l.values.items)) (values_in (texts (drop l.word-index l.words)))
