use Rattle.std.proofs.Common.{arith}
use Rattle.exif_base.specs.Bytes.{number_at}
use Rattle.exif_base.specs.Orders.{number_of}
use Rattle.exif_thumbnails.proofs.EntrySteps.{entry_passed}
use Rattle.exif_thumbnails.proofs.previews.entry_named.Goals as goal

pub loop-preserved : goal.loop-preserved
loop-preserved c = record {
  space = λ h. omega (arith, c.loop.invariant.space);
  rest = entry_passed (number_at (number_of c.args.order) 2 c.args.bytes.now) c.args.tag
      c.whole_entries-end.result c.loop.counter c.loop.at c.number16.result _ c.loop-test.true
      c.number16.ensures c.if-number16-tag.false c.loop.invariant.rest;
}
