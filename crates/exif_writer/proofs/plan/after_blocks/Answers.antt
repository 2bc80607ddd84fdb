use Rattle.std.proofs.Common.{get_or, refl, ap, arith}
use Rattle.std.proofs.lemmas.List.{take_all}
use Rattle.exif_writer.specs.Sending.{sum_of}
use Rattle.exif_writer.proofs.BlockSums.{end_is_sum, sum_more}
use Rattle.exif_writer.proofs.SendRunning.{sum_within, no_text}
use Rattle.exif_writer.proofs.plan.after_blocks.Goals as goal

pub overflow_cast-end : goal.overflow_cast-end
overflow_cast-end c =
    let end = end_is_sum c.args.offset c.args.blocks.now in
    let room = sum_within c.args.blocks.now c.loop-block.block-index (get_or c.args.blocks.now c.loop-block.block-index no_text) no_text c.loop-block-test.true refl in
    let small = c.requires in
    omega arith

pub overflow_add-end : goal.overflow_add-end
overflow_add-end c =
    let end = end_is_sum c.args.offset c.args.blocks.now in
    let room = sum_within c.args.blocks.now c.loop-block.block-index (get_or c.args.blocks.now c.loop-block.block-index no_text) no_text c.loop-block-test.true refl in
    let small = c.requires in
    let sum = c.loop-block.invariant in
    omega arith

pub loop-block-preserved : goal.loop-block-preserved
loop-block-preserved c =
    let more = sum_more c.args.blocks.now c.loop-block.block-index (get_or c.args.blocks.now c.loop-block.block-index no_text) no_text c.loop-block-test.true refl in
    let sum = c.loop-block.invariant in
    omega arith

pub returns : goal.returns
returns c =
    let end = end_is_sum c.args.offset c.args.blocks.now in
    let all = ap sum_of (take_all c.loop-block.block-index c.args.blocks.now c.loop-block-test.false) in
    let sum = c.loop-block.invariant in
    omega arith
