use Rattle.std.proofs.Common.{◌≡◌, ◌∙◌, get_or, ap, arith}
use Rattle.std.proofs.Math.ListN.{set}
use Rattle.exif_writer.specs.declared.plan.Slot.{Slot}
use Rattle.std.proofs.lemmas.List.{take_all}
use Rattle.exif_writer.specs.Sending.{values_end, settle_slot, after_slot, IsMeasurable}
use Rattle.exif_writer.proofs.SendRunning.{state_more}
use Rattle.exif_writer.proofs.PlanSettling.{settle_at, settle_more, settle_all}
use Rattle.exif_writer.proofs.SendSizes.{all_at, slot_within}
use Rattle.exif_writer.proofs.plan.settle.Goals as goal

pub settle-end-requires-clause-measurable : goal.settle-end-requires-clause-measurable
settle-end-requires-clause-measurable c =
    let slots = c.args.slots.now in
    let at : get_or c.loop-slot.slots c.loop-slot.slot-index c.slot-item.result ≡ get_or slots c.loop-slot.slot-index c.slot-item.result =
    ap (λ xs. get_or xs c.loop-slot.slot-index c.slot-item.result) c.loop-slot.invariant.settled ∙ settle_at c.args.start slots c.loop-slot.slot-index c.slot-item.result c.loop-slot-test.true in
    all_at IsMeasurable slots c.loop-slot.slot-index (get_or c.loop-slot.slots c.loop-slot.slot-index c.slot-item.result) c.slot-item.result
    c.requires.measurable c.loop-slot-test.true at

pub settle-end-requires-clause-room : goal.settle-end-requires-clause-room
settle-end-requires-clause-room c =
    let slots = c.args.slots.now in
    let at : get_or c.loop-slot.slots c.loop-slot.slot-index c.slot-item.result ≡ get_or slots c.loop-slot.slot-index c.slot-item.result =
    ap (λ xs. get_or xs c.loop-slot.slot-index c.slot-item.result) c.loop-slot.invariant.settled ∙ settle_at c.args.start slots c.loop-slot.slot-index c.slot-item.result c.loop-slot-test.true in
    let within = slot_within c.args.start c.loop-slot.end slots c.loop-slot.slot-index (get_or c.loop-slot.slots c.loop-slot.slot-index c.slot-item.result) c.slot-item.result
    c.loop-slot-test.true at c.loop-slot.invariant.end in
    omega arith

pub loop-slot-preserved : goal.loop-slot-preserved
loop-slot-preserved c =
    let slots = c.args.slots.now in
    let now : Slot = get_or c.loop-slot.slots c.loop-slot.slot-index c.slot-item.result in
    let at : now ≡ get_or slots c.loop-slot.slot-index c.slot-item.result =
    ap (λ xs. get_or xs c.loop-slot.slot-index c.slot-item.result) c.loop-slot.invariant.settled ∙ settle_at c.args.start slots c.loop-slot.slot-index c.slot-item.result c.loop-slot-test.true in
    record {
      end = c.settle-end.ensures.end ∙ state_more after_slot c.args.start c.loop-slot.end slots c.loop-slot.slot-index now c.slot-item.result c.loop-slot-test.true at c.loop-slot.invariant.end;
      settled = ap (λ xs. set xs c.loop-slot.slot-index c.settle-end.new.self) c.loop-slot.invariant.settled
          ∙ settle_more c.args.start slots c.loop-slot.slot-index c.settle-end.new.self c.slot-item.result c.loop-slot-test.true
          (c.settle-end.ensures.slot ∙ (λ i. settle_slot (c.loop-slot.invariant.end i) (at i)));
    }

pub returns-clause-settled : goal.returns-clause-settled
returns-clause-settled c = c.loop-slot.invariant.settled ∙ settle_all c.args.start c.args.slots.now c.loop-slot.slot-index c.loop-slot-test.false

pub returns-clause-end : goal.returns-clause-end
returns-clause-end c = c.loop-slot.invariant.end ∙ ap (values_end c.args.start) (take_all c.loop-slot.slot-index c.args.slots.now c.loop-slot-test.false)
