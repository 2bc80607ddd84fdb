use Rattle.std.proofs.Common.{◌-◌, arith}
use Rattle.exif_lengths.proofs.PicturesSteps.{entries_step}
use Rattle.exif_lengths.proofs.pictures.entries_len.Goals as goal

pub loop-left-preserved : goal.loop-left-preserved
loop-left-preserved c =
    let l = c.loop-left in
    let step = entries_step c.args.little l.left (l.left - 1) l.rest.now (omega (arith, c.loop-left-test.true)) in
    record {
      sum = rw (c.behind-rest.ensures) (omega (arith, step, l.invariant.sum, c.entry_len-len.ensures.value));
      most = omega (arith, l.invariant.most, c.entry_len-len.ensures.most, c.loop-left-test.true);
    }
