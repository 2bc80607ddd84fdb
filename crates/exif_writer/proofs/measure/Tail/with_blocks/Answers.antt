use Rattle.std.proofs.Common.{[], ◌∷◌, ◌++◌, arith, sym}
use Rattle.exif_writer.proofs.MeasureTails.{offset_slot, length_slot, slot_len, over_many, span_first, pushed_two, none_map, some_map}
use Rattle.exif_writer.proofs.measure.Tail.with_blocks.Goals as goal

pub returns-in_err-size-clause-over : goal.returns-in_err-size-clause-over
returns-in_err-size-clause-over c = rw (c.from_residual.ensures, c.in-Some.is) (λ slots t. over_many c.args.kind c.in-Some.blocks.now slots (omega arith))

pub returns-in_err-with-clause-over : goal.returns-in_err-with-clause-over
returns-in_err-with-clause-over c = rw (c.from_residual-in_err-with.ensures, c.in-Some.is) (λ slots t.
    let one = c.in_err-with.ensures.over slots (offset_slot c.args.kind c.in-Some.blocks.now) t (slot_len c.in-Some.blocks.now c.in_ok-size.size (omega arith)) in
    let two = span_first slots (offset_slot c.args.kind c.in-Some.blocks.now) (length_slot c.args.kind c.in-Some.blocks.now) in
    omega arith)

pub returns-clause-over : goal.returns-clause-over
returns-clause-over c = rw c.in-Some.is (none_map c.with-2.result (λ over slots t.
    let one = c.in_ok-with.ensures.told slots (offset_slot c.args.kind c.in-Some.blocks.now) t (sym c.offsets_tag.ensures) (slot_len c.in-Some.blocks.now c.in_ok-size.size (omega arith)) in
    let two = over (slots ++ offset_slot c.args.kind c.in-Some.blocks.now ∷ []) (length_slot c.args.kind c.in-Some.blocks.now) one (slot_len c.in-Some.blocks.now c.in_ok-size.size (omega arith)) in
    rw (← pushed_two slots (offset_slot c.args.kind c.in-Some.blocks.now) (length_slot c.args.kind c.in-Some.blocks.now)) two) c.with-2.ensures.over)

pub returns-clause-told : goal.returns-clause-told
returns-clause-told c = rw c.in-Some.is (some_map c.with-2.result (λ tail told slots t.
    let one = c.in_ok-with.ensures.told slots (offset_slot c.args.kind c.in-Some.blocks.now) t (sym c.offsets_tag.ensures) (slot_len c.in-Some.blocks.now c.in_ok-size.size (omega arith)) in
    let two = told (slots ++ offset_slot c.args.kind c.in-Some.blocks.now ∷ []) (length_slot c.args.kind c.in-Some.blocks.now) one (sym c.lengths_tag.ensures) (slot_len c.in-Some.blocks.now c.in_ok-size.size (omega arith)) in
    rw (← pushed_two slots (offset_slot c.args.kind c.in-Some.blocks.now) (length_slot c.args.kind c.in-Some.blocks.now)) two) c.with-2.ensures.told)
