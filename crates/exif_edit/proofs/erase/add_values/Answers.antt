use Rattle.std.proofs.Common.{arith, ap, ◌∙◌, ◌++◌, ◌∷◌, []}
use Rattle.exif_base.specs.Orders.{number_of}
use Rattle.exif_edit_base.specs.Patches.{zeros_over}
use Rattle.exif_edit.specs.Erasing.{gps_value_span}
use Rattle.exif_edit.proofs.EraseSteps.{value_on}
use Rattle.exif_edit.proofs.erase.add_values.Goals as goal

pub loop-preserved : goal.loop-preserved
loop-preserved c = record {
  space = λ h. omega (arith, c.loop.invariant.space);
  bound = omega (arith, c.loop.invariant.bound);
  rest = value_on (gps_value_span (number_of c.args.order) c.args.bytes.now) c.loop.at c.args.count
      c.loop.counter c.loop.patches.items c.push.new.self.items _ c.loop-test.true
      (c.in_ok-push.ensures.items
      ∙ ap (λ p. c.loop.patches.items ++ p ∷ [])
      (c.in_ok-patch.ensures ∙ ap zeros_over c.gps_value_span-span.ensures)) c.loop.invariant.rest;
}
