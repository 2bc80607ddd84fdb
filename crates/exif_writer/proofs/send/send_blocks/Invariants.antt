use Rattle.std.proofs.Common.{take}
use Rattle.exif_writer.specs.Sending.{blocks_text}
use Rattle.exif_writer.proofs.SendChains.{HasSent}
use Rattle.exif_writer.proofs.send.send_blocks.Given as goal

abbrev pub invariant-loop-block : goal.invariant-loop-block
invariant-loop-block g l = HasSent g.W.Sink l.initial.out l.out (blocks_text (take l.block-index l.blocks))
