use Rattle.std.proofs.Common.{arith, length}
use Rattle.std.proofs.lemmas.Bool.Decides.{nat_tests}
use Rattle.std.proofs.lemmas.List.{drop_more}
use Rattle.exif_lengths.proofs.WalkSteps.{part_ends}
use Rattle.exif_lengths.proofs.walk.measured.Goals as goal

pub add_part-requires-clause-ends : goal.add_part-requires-clause-ends
add_part-requires-clause-ends c =
    part_ends (length c.args.file.now) c.loop-part.all.items c.args.parts.now c.loop-part.part-index _ _
    (drop_more c.args.parts.now c.loop-part.part-index _ (grind (arith, nat_tests))) c.loop-part.invariant.1
