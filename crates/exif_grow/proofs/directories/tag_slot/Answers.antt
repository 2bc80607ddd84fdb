use Rattle.std.proofs.Common.{arith, sym, ◌∙◌}
use Rattle.exif_base.specs.Orders.{number_of}
use Rattle.exif_grow.proofs.DirectorySteps.{slot_next}
use Rattle.exif_grow.proofs.directories.tag_slot.Goals as goal

pub loop-left-preserved : goal.loop-left-preserved
loop-left-preserved c = record {
  follows = sym (slot_next (number_of c.args.order) c.args.bytes.now c.args.number c.loop-left.left
      c.loop-left.at c.number16.result (omega (arith, c.loop-left-test.true)) c.number16.ensures
      c.if-number16-number.false)
      ∙ c.loop-left.invariant.follows;
  within = omega (arith, c.loop-left.invariant.within, c.loop-left-test.true);
}
