use Rattle.std.proofs.Common.{arith}
use Rattle.exif_base.specs.Orders.{number_of}
use Rattle.exif_grow.proofs.DirectorySteps.{leading_next}
use Rattle.exif_grow.proofs.directories.leading.Goals as goal

pub loop-passed-preserved : goal.loop-passed-preserved
loop-passed-preserved c = record {
  follows = leading_next (number_of c.args.order) c.args.bytes.now c.args.number
      c.args.directory.count c.loop-passed.passed c.loop-passed.at _ c.loop-passed-test.true
      (omega (arith, c.number16.ensures, c.if-number16-number.false))
      c.loop-passed.invariant.follows;
  within = omega (arith, c.loop-passed.invariant.within);
  bound = omega arith;
}
