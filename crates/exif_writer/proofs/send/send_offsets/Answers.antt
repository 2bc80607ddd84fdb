use Rattle.std.proofs.Common.{◌+◌, length, arith, refl, sym, take, get_or}
use Rattle.exif_writer.proofs.SendRunning.{runs_member, runs_stop, runs_all, state_more, run_offsets, state_sum, sum_within, no_text}
use Rattle.exif_writer.proofs.SendChains.{sends_none}
use Rattle.exif_writer.proofs.send.send_offsets.Goals as goal
use Rattle.exif_layout.specs.Encoding.{spelled}

pub loop-block-init : goal.loop-block-init
loop-block-init g c = record { sent = sends_none; offset = refl }

pub overflow_add-offset : goal.overflow_add-offset
overflow_add-offset g c =
    let offset = state_sum c.args.first (take c.loop-block.block-index c.args.blocks.now) in
    let room = sum_within c.args.blocks.now c.loop-block.block-index (get_or c.args.blocks.now c.loop-block.block-index no_text) no_text c.loop-block-test.true refl in
    omega arith

pub overflow_cast-offset : goal.overflow_cast-offset
overflow_cast-offset g c =
    let room = sum_within c.args.blocks.now c.loop-block.block-index (get_or c.args.blocks.now c.loop-block.block-index no_text) no_text c.loop-block-test.true refl in
    omega arith

pub loop-block-preserved : goal.loop-block-preserved
loop-block-preserved g c = record {
  sent = runs_member (λ p b. p + length b.now) (λ p b. spelled c.args.order 4 p) c.args.first c.loop-block.offset c.args.blocks.now c.loop-block.block-index
      (get_or c.args.blocks.now c.loop-block.block-index no_text) no_text
      c.loop-block-test.true refl c.loop-block.invariant.offset c.loop-block.invariant.sent c.in_ok-send_u32.ensures.sends;
  offset = state_more (λ p b. p + length b.now) c.args.first c.loop-block.offset c.args.blocks.now c.loop-block.block-index _ no_text
      c.loop-block-test.true refl c.loop-block.invariant.offset;
}

pub returns-in_err-send_u32 : goal.returns-in_err-send_u32
returns-in_err-send_u32 g c = record {
  sends = rw (sym (run_offsets c.args.order c.args.first c.args.blocks.now))
      (runs_stop (λ p b. p + length b.now) (λ p b. spelled c.args.order 4 p) c.args.first c.loop-block.offset c.args.blocks.now c.loop-block.block-index
      (get_or c.args.blocks.now c.loop-block.block-index no_text) no_text
      c.loop-block-test.true refl c.loop-block.invariant.offset c.loop-block.invariant.sent c.in_err-send_u32.ensures.sends c.from_residual.ensures.0);
}

pub returns : goal.returns
returns g c = record {
  sends = rw (sym (run_offsets c.args.order c.args.first c.args.blocks.now))
      (runs_all (λ p b. p + length b.now) (λ p b. spelled c.args.order 4 p) c.args.first c.args.blocks.now c.loop-block.block-index c.loop-block-test.false c.loop-block.invariant.sent);
}
