use Rattle.exif_rename.proofs.Chosen.{UnusedFrom}
use Rattle.std.specs.BTreeSet.{contains_text}
use Rattle.exif_rename.proofs.unused.find_unused.Given as goal

abbrev pub invariant-loop-number : goal.invariant-loop-number
invariant-loop-number l = UnusedFrom (contains_text l.given) l.base l.ending l.number
