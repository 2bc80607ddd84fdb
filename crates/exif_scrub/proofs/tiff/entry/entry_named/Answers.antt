use Rattle.std.proofs.Common.{◌-◌, sym, ◌∙◌, refl, arith}
use Rattle.exif_base.specs.Orders.{number_of}
use Rattle.exif_scrub.proofs.TiffSteps.{named_next}
use Rattle.exif_scrub.proofs.tiff.entry.entry_named.Goals as goal

pub loop-left-preserved : goal.loop-left-preserved
loop-left-preserved c = record {
  first = sym (named_next (number_of c.args.old.order) c.args.old.bytes.now c.args.tag c.loop-left.left (c.loop-left.left - 1) c.loop-left.at _ c.in_ok-short.field-0
      (omega (arith, c.loop-left-test.true)) refl c.in_ok-short.ensures c.if-branch-tag.false)
      ∙ c.loop-left.invariant.first;
  bound = omega (arith, c.loop-left.invariant.bound, c.loop-left-test.true);
}
