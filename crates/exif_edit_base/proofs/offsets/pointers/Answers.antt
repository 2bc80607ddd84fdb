use Rattle.std.proofs.Common.{arith, ap}
use Rattle.std.specs.List.{flat_map}
use Rattle.exif_base.specs.Orders.{number_of}
use Rattle.exif_edit_base.specs.GpsOffsets.{pointers, pointers_in}
use Rattle.exif_edit_base.proofs.OffsetSteps.{all_taken, entry_on, none_left, take_short}
use Rattle.exif_edit_base.proofs.offsets.pointers.Goals as goal

pub loop-preserved : goal.loop-preserved
loop-preserved c = record {
  few = rw c.in_ok-add_pointers.ensures (take_short 256 _);
  space = λ h. omega (arith, c.loop.invariant.space);
  rest = entry_on 256 c.whole_entries-end.result c.loop.counter c.loop.at
      (pointers_in c.args.target (number_of c.args.order) c.args.bytes.now) c.loop.pointers.items
      c.add_pointers.new.pointers.items _ c.loop-test.true c.in_ok-add_pointers.ensures
      c.loop.invariant.rest;
}

pub returns : goal.returns
unfolding pointers
returns c =
    all_taken 256 c.loop.pointers.items _ _ c.loop.invariant.few
    (ap
    (λ xs. flat_map (pointers_in c.args.target (number_of c.args.order) c.args.bytes.now) xs)
    (none_left c.whole_entries-end.result c.loop.counter c.loop.at 12 c.loop-test.false))
    c.loop.invariant.rest
