use Rattle.std.proofs.Common.{length}
use Rattle.exif_inventory_heif.specs.declared.piece.State.TheVariants.{Before}
use Rattle.exif_inventory_heif.proofs.WalkSteps.{Walks}
use Rattle.exif_inventory_heif.proofs.walk.spans_of.Given as goal

-- the spans so far, with those of what is left, are those of the file; they are in order
abbrev pub invariant-loop-rest : goal.invariant-loop-rest
invariant-loop-rest l = Walks Before l.file l.state l.from l.rest l.found.items

abbrev pub decreases-loop-rest : goal.decreases-loop-rest
decreases-loop-rest l = length l.rest
