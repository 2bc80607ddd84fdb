use Rattle.std.proofs.Common.{◌≡◌, ◌<◌, ◌-◌, ◌++◌, ℕ, List, length, ap, sym, subst, ◌∙◌, arith}
use Rattle.exif_inventory.specs.declared.piece.State.{State}
use Rattle.exif_blocks.specs.Blocks.{blocks_put}
use Rattle.exif_blocks.proofs.BlockSteps.{Runs, runs_on, runs_over}
use Rattle.exif_blocks.proofs.walk.blocks_put.Goals as goal

pub loop-block-smaller : goal.loop-block-smaller
loop-block-smaller c =
    let some : 0 < length c.loop-block.rest.now = c.has_next.ensures.some c.loop-block-test.true in
    let left : length c.split.result.1.now ≡ length c.loop-block.rest.now - c.unit_len.result = c.split.ensures.left in
    let long : 0 < c.unit_len.result = c.unit_len.ensures.some in
    omega arith

pub loop-block-preserved : goal.loop-block-preserved
loop-block-preserved c =
    let answer = blocks_put (length c.args.bytes.now) c.args.block c.args.place c.args.start c.args.new.now c.args.bytes.now c.args.front.items in
    subst (λ (s : State). Runs c.args.block c.args.place answer s c.left_behind-left.result.now c.split.result.1.now c.add_unit.new.out.items) (sym c.next_of-state.ensures)
    (runs_on c.args.block c.args.place answer c.loop-block.state c.loop-block.left.now c.loop-block.rest.now c.loop-block.out.items
    c.piece_in-piece.result c.unit_len.result c.split.result.0.now c.step_of-step.result c.left_behind-left.result.now c.split.result.1.now c.add_unit.new.out.items
    c.loop-block.invariant (c.has_next.ensures.some c.loop-block-test.true) (sym c.has_next.ensures.answer ∙ c.loop-block-test.true) c.piece_in-piece.ensures.value
    c.unit_len.ensures.value c.unit_len.ensures.some c.split.ensures.first c.step_of-step.ensures c.left_behind-left.ensures c.split.ensures.rest c.in_ok-add_unit.ensures)

pub returns : goal.returns
returns c =
    let answer = blocks_put (length c.args.bytes.now) c.args.block c.args.place c.args.start c.args.new.now c.args.bytes.now c.args.front.items in
    let over = runs_over c.args.block c.args.place answer c.loop-block.state c.loop-block.left.now c.loop-block.rest.now c.loop-block.out.items
    c.loop-block.invariant (sym c.has_next.ensures.answer ∙ c.loop-block-test.false) in
    c.in_ok-extend_from_slice-2.ensures.items
    ∙ ap (λ (x : List ℕ). x ++ c.loop-block.rest.now) c.in_ok-extend_from_slice.ensures.items
    ∙ sym over
