use Rattle.std.proofs.Common.{length, arith, refl, sym, get_or}
use Rattle.exif_writer.proofs.SendRunning.{lengths_text, sum_within, no_text}
use Rattle.exif_writer.proofs.SendChains.{sends_none, sends_member, sends_stop_member, sends_members}
use Rattle.exif_writer.proofs.send.send_lengths.Goals as goal
use Rattle.exif_layout.specs.Encoding.{spelled}

pub loop-block-init : goal.loop-block-init
loop-block-init g c = sends_none

pub overflow_cast-block : goal.overflow_cast-block
overflow_cast-block g c =
    let room = sum_within c.args.blocks.now c.loop-block.block-index (get_or c.args.blocks.now c.loop-block.block-index no_text) no_text c.loop-block-test.true refl in
    omega arith

pub loop-block-preserved : goal.loop-block-preserved
loop-block-preserved g c =
    sends_member (λ block. spelled c.args.order 4 (length block.now)) c.args.blocks.now c.loop-block.block-index (get_or c.args.blocks.now c.loop-block.block-index no_text) no_text
    c.loop-block-test.true refl c.loop-block.invariant c.in_ok-send_u32.ensures.sends

pub returns-in_err-send_u32 : goal.returns-in_err-send_u32
returns-in_err-send_u32 g c = record {
  sends = rw (sym (lengths_text c.args.order c.args.blocks.now))
      (sends_stop_member (λ block. spelled c.args.order 4 (length block.now)) c.args.blocks.now c.loop-block.block-index (get_or c.args.blocks.now c.loop-block.block-index no_text) no_text
      c.loop-block-test.true refl c.loop-block.invariant c.in_err-send_u32.ensures.sends c.from_residual.ensures.0);
}

pub returns : goal.returns
returns g c = record {
  sends = rw (sym (lengths_text c.args.order c.args.blocks.now))
      (sends_members (λ block. spelled c.args.order 4 (length block.now)) c.args.blocks.now c.loop-block.block-index c.loop-block-test.false c.loop-block.invariant);
}
