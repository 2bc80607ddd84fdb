use Rattle.std.proofs.Common.{get_or, refl, rules, ap}
use Rattle.std.proofs.lemmas.List.{take_all}
use Rattle.exif_writer.specs.Sending.{sum_of}
use Rattle.exif_writer.proofs.BlockSums.{end_is_sum, sum_more}
use Rattle.exif_writer.proofs.SendRunning.{sum_within, no_text}
use Rattle.exif_writer.proofs.measure.blocks_end.Goals as goal

pub returns-in_err-end : goal.returns-in_err-end
returns-in_err-end c =
    let end = end_is_sum c.args.offset c.args.blocks.now in
    let room = sum_within c.args.blocks.now c.loop-block.block-index (get_or c.args.blocks.now c.loop-block.block-index no_text) no_text c.loop-block-test.true refl in
    search rules

pub loop-block-preserved : goal.loop-block-preserved
loop-block-preserved c =
    let more = sum_more c.args.blocks.now c.loop-block.block-index (get_or c.args.blocks.now c.loop-block.block-index no_text) no_text c.loop-block-test.true refl in
    search rules

pub returns : goal.returns
returns c =
    let end = end_is_sum c.args.offset c.args.blocks.now in
    let all = ap sum_of (take_all c.loop-block.block-index c.args.blocks.now c.loop-block-test.false) in
    search rules
