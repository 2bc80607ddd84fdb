use Rattle.std.proofs.Common.{◌≡◌, ◌++◌, drop}
use Rattle.exif_arguments.specs.Changes.{files_among}
use Rattle.exif_arguments.specs.Given.{texts}
use Rattle.exif_arguments.proofs.changes.files_among.Given as goal

-- the files so far are before those among the words that are left
abbrev pub invariant-loop-word : goal.invariant-loop-word
invariant-loop-word l =
    files_among (texts l.words) ≡ texts l.files.items ++ files_among (texts (drop l.word-index l.words))
