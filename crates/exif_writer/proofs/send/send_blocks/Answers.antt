use Rattle.std.proofs.Common.{refl, get_or}
use Rattle.exif_writer.proofs.SendRunning.{no_text}
use Rattle.exif_writer.proofs.SendChains.{sends_none, sends_member, sends_stop_member, sends_members}
use Rattle.exif_writer.proofs.send.send_blocks.Goals as goal

pub loop-block-init : goal.loop-block-init
loop-block-init g c = sends_none

pub loop-block-preserved : goal.loop-block-preserved
loop-block-preserved g c =
    sends_member (λ block. block.now) c.args.blocks.now c.loop-block.block-index (get_or c.args.blocks.now c.loop-block.block-index no_text) no_text
    c.loop-block-test.true refl c.loop-block.invariant c.in_ok-send_all.ensures.sends

pub returns-in_err-send_all : goal.returns-in_err-send_all
returns-in_err-send_all g c = record {
  sends = sends_stop_member (λ block. block.now) c.args.blocks.now c.loop-block.block-index (get_or c.args.blocks.now c.loop-block.block-index no_text) no_text
      c.loop-block-test.true refl c.loop-block.invariant c.in_err-send_all.ensures.sends c.from_residual.ensures.0;
}

pub returns : goal.returns
returns g c = record { sends = sends_members (λ block. block.now) c.args.blocks.now c.loop-block.block-index c.loop-block-test.false c.loop-block.invariant }
