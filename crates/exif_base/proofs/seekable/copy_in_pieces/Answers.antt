use Rattle.std.proofs.Common.{arith, rules}
use Rattle.exif_base.proofs.ReadSteps.{copied_more}
use Rattle.exif_base.proofs.seekable.copy_in_pieces.Goals as goal

pub loop-at-preserved : goal.loop-at-preserved
loop-at-preserved c = (
  search rules,
  copied_more c.loop-at.at _ c.args.bytes.now c.args.buf.now.items c.loop-at.buf.items _ (omega arith) c.loop-at.invariant.1 (search rules),
)
