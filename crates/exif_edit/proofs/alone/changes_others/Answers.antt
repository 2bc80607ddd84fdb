use Rattle.std.proofs.Common.{arith}
use Rattle.exif_base.specs.Orders.{number_of}
use Rattle.exif_edit.specs.Sharing.{other_entry}
use Rattle.exif_edit.specs.Changing.{changes}
use Rattle.exif_edit.proofs.AloneSteps.{entry_met, entry_on}
use Rattle.exif_edit.proofs.alone.changes_others.Goals as goal

pub loop-preserved : goal.loop-preserved
loop-preserved c = record {
  space = λ h. omega (arith, c.loop.invariant.space);
  follows = entry_on (changes c.args.patches.now)
      (other_entry (number_of c.args.order) c.args.bytes.now c.args.entry) c.loop.at
      c.whole_entries-end.result c.loop.counter c.changes_other.result _ c.loop-test.true
      c.changes_other.ensures c.if-changes_other.false c.loop.invariant.follows;
}

pub returns-then-changes_other : goal.returns-then-changes_other
returns-then-changes_other c =
    entry_met (changes c.args.patches.now)
    (other_entry (number_of c.args.order) c.args.bytes.now c.args.entry) c.loop.at
    c.whole_entries-end.result c.loop.counter c.changes_other.result _ c.loop-test.true
    c.changes_other.ensures c.if-changes_other.true c.loop.invariant.follows
