use Rattle.std.proofs.Common.{◌<◌, length, arith}
use Rattle.exif_rename.proofs.GroupSteps.{ending_step, within_step}
use Rattle.exif_rename.proofs.grouping.ending_start.Goals as goal

pub loop-index-preserved : goal.loop-index-preserved
loop-index-preserved c =
    let path = c.args.path.now in
    let index = c.loop-index.index in
    let lt : index < length path = omega arith in
    let facts = within_step path index c.loop-index.start c.loop-index.begun c.after_byte-next.result lt c.after_byte-next.ensures c.loop-index.invariant.within c.loop-index.invariant.dot in
    record {
      within = facts.0;
      dot = facts.1;
      same = ending_step path index c.loop-index.start c.loop-index.begun c.after_byte-next.result lt c.after_byte-next.ensures c.loop-index.invariant.same;
    }
