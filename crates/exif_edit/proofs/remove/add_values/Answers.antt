use Rattle.std.proofs.Common.{refl, arith, map}
use Rattle.std.proofs.Math.Nat.{sub-zero}
use Rattle.exif_base.specs.Orders.{number_of}
use Rattle.exif_edit_base.specs.Patches.{zeros_over}
use Rattle.exif_edit_base.specs.Spans.{value_span}
use Rattle.exif_edit.specs.Removing.{has_tag}
use Rattle.exif_edit.proofs.RemoveSteps.{passed_on, zeros_append}
use Rattle.exif_edit.proofs.remove.add_values.Goals as goal

pub loop-init : goal.loop-init
loop-init c = record {
  space = λ h. omega (arith, c.whole_entries-count.ensures.space);
  bound = omega arith;
  rest = rw (sub-zero, c.whole_entries-count.ensures.value) refl;
}

pub loop-preserved : goal.loop-preserved
loop-preserved c = record {
  space = λ h. omega (arith, c.loop.invariant.space);
  bound = omega (arith, c.loop.invariant.bound);
  rest = passed_on
      (λ es. map zeros_over (map (value_span (number_of c.args.order) c.args.bytes.now) es))
      (zeros_append (value_span (number_of c.args.order) c.args.bytes.now))
      (has_tag (number_of c.args.order) c.args.bytes.now c.args.number) c.loop.at
      c.whole_entries-count.result c.loop.counter c.loop.patches.items c.add_value.new.patches.items
      _ c.loop-test.true c.in_ok-add_value.ensures c.loop.invariant.rest;
}
