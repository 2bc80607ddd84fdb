use Rattle.std.proofs.Common.{arith, ◌≤◌, ◌∷◌, [], length}
use Rattle.std.specs.Prelude.{not}
use Rattle.std.specs.List.{filter}
use Rattle.std.proofs.lemmas.Grind.{flat_map-append}
use Rattle.exif_base.specs.Bytes.{bytes_at}
use Rattle.exif_base.specs.Orders.{number_of}
use Rattle.exif_edit.specs.Removing.{entries_bytes, has_tag}
use Rattle.exif_edit.proofs.RemoveSteps.{counted_on, few_passed, passed_on}
use Rattle.exif_edit.proofs.remove.entries_without.Goals as goal

pub loop-preserved : goal.loop-preserved
loop-preserved c =
    let few : length
    (filter (λ e. not (has_tag (number_of c.args.order) c.args.bytes.now c.args.number e))
    (c.loop.at ∷ [])) ≤ 1 = few_passed
    (λ e. not (has_tag (number_of c.args.order) c.args.bytes.now c.args.number e))
    (c.loop.at ∷ []) in
    record {
      space = λ h. omega (arith, c.loop.invariant.space);
      bound = omega (arith, c.loop.invariant.bound);
      few = omega (arith, c.loop.invariant.few, few, c.in_ok-keep.ensures.count);
      count = counted_on
          (λ e. not (has_tag (number_of c.args.order) c.args.bytes.now c.args.number e)) c.loop.at
          c.args.count c.loop.counter c.loop.kept.count c.keep.new.kept.count _ c.loop-test.true
          c.in_ok-keep.ensures.count c.loop.invariant.count;
      encoded = passed_on (entries_bytes c.args.bytes.now)
          (flat_map-append (bytes_at 12 c.args.bytes.now))
          (λ e. not (has_tag (number_of c.args.order) c.args.bytes.now c.args.number e)) c.loop.at
          c.args.count c.loop.counter c.loop.kept.encoded.items c.keep.new.kept.encoded.items _
          c.loop-test.true c.in_ok-keep.ensures.encoded c.loop.invariant.encoded;
    }
