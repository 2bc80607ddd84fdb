use Rattle.std.proofs.Common.{◌∙◌}
use Rattle.exif_writer.proofs.Growth.{pushed_one, grow_more}
use Rattle.exif_writer.proofs.writer.grow.Goals as goal

pub loop-made-preserved : goal.loop-made-preserved
loop-made-preserved c =
    pushed_one _ _ _ _ _ c.is_err.ensures.negation c.if-is_err.false c.new.ensures c.push.ensures.items
    ∙ grow_more c.len-before.result c.loop-made._made c.args.ifds.now.items c.loop-made.ifds.items c.loop-made.auto._made c.loop-made.invariant
