use Rattle.std.proofs.Common.{length, take}
use Rattle.std.specs.List.{flat_map}
use Rattle.exif_layout.specs.Encoding.{spelled}
use Rattle.exif_writer.proofs.SendChains.{HasSent}
use Rattle.exif_writer.proofs.send.send_lengths.Given as goal

abbrev pub invariant-loop-block : goal.invariant-loop-block
invariant-loop-block g l =
    HasSent g.W.Sink l.initial.out l.out (flat_map (λ block. spelled l.order 4 (length block.now)) (take l.block-index l.blocks))
