use Rattle.std.proofs.Common.{arith}
use Rattle.exif_base.specs.Orders.{number_of}
use Rattle.exif_tiff.specs.Footprint.{value_stretch}
use Rattle.exif_edit.specs.Changing.{changes}
use Rattle.exif_edit.proofs.AloneSteps.{entry_met, entry_on}
use Rattle.exif_edit.proofs.alone.changes_values.Goals as goal

pub loop-preserved : goal.loop-preserved
loop-preserved c = record {
  space = λ h. omega (arith, c.loop.invariant.space);
  follows = entry_on (changes c.args.patches.now)
      (value_stretch (number_of c.args.order) c.args.bytes.now) c.loop.at
      c.whole_entries-end.result c.loop.counter c.changes_value.result _ c.loop-test.true
      c.changes_value.ensures c.if-changes_value.false c.loop.invariant.follows;
}

pub returns-then-changes_value : goal.returns-then-changes_value
returns-then-changes_value c =
    entry_met (changes c.args.patches.now)
    (value_stretch (number_of c.args.order) c.args.bytes.now) c.loop.at
    c.whole_entries-end.result c.loop.counter c.changes_value.result _ c.loop-test.true
    c.changes_value.ensures c.if-changes_value.true c.loop.invariant.follows
