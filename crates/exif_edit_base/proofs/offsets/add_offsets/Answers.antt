use Rattle.std.proofs.Common.{arith, ap, map, ◌∙◌, ◌++◌, ◌∷◌, []}
use Rattle.std.proofs.lemmas.Grind.{common_steps}
use Rattle.exif_base.specs.Bytes.{number_at}
use Rattle.exif_base.specs.Orders.{number_of}
use Rattle.exif_edit_base.specs.GpsOffsets.{offset_len}
use Rattle.exif_edit_base.proofs.OffsetSteps.{all_taken, none_left, offset_full, offset_on, offsets_behind}
use Rattle.exif_edit_base.proofs.offsets.add_offsets.Goals as goal

pub returns-then-len-ge-MAX_POINTERS : goal.returns-then-len-ge-MAX_POINTERS
returns-then-len-ge-MAX_POINTERS c =
    offset_full 256 c.loop.pointers.items _ _ c.loop.invariant.few (omega arith)
    c.loop.invariant.rest

pub loop-preserved : goal.loop-preserved
loop-preserved c =
    let t = c.number16-field_type.result in
    let number = number_of c.args.order in
    record {
      few = grind (arith, common_steps);
      space = λ h. rw c.offset_len-at.ensures.value
          (offsets_behind t c.values_count-end.result c.loop.counter _ c.loop.at c.loop-test.true
          (c.loop.invariant.space c.loop-test.true));
      rest = rw c.offset_len-at.ensures.value
          (offset_on 256 c.values_count-end.result c.loop.counter c.loop.at (offset_len t)
          (number_at number (offset_len t) c.args.bytes.now) c.loop.pointers.items
          c.push.new.self.items _ c.loop-test.true
          (c.in_ok-push.ensures.items
          ∙ ap (λ x. c.loop.pointers.items ++ x ∷ []) c.offset_at.ensures)
          c.loop.invariant.rest);
    }

pub returns : goal.returns
returns c =
    all_taken 256 c.loop.pointers.items _ _ c.loop.invariant.few
    (ap
    (λ xs. map
    (number_at (number_of c.args.order) (offset_len c.number16-field_type.result)
    c.args.bytes.now) xs)
    (none_left c.values_count-end.result c.loop.counter c.loop.at _ c.loop-test.false))
    c.loop.invariant.rest
