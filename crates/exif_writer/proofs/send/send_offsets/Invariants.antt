use Rattle.std.proofs.Common.{◌≡◌, ◌+◌, length, take}
use Rattle.exif_writer.specs.Running.{run, state}
use Rattle.exif_writer.proofs.SendChains.{HasSent}
use Rattle.exif_writer.proofs.send.send_offsets.Given as goal
use Rattle.exif_layout.specs.Encoding.{spelled}

abbrev pub invariant-loop-block : goal.invariant-loop-block
invariant-loop-block g l = record {
  sent : HasSent g.W.Sink l.initial.out l.out (run (λ p b. p + length b.now) (λ p b. spelled l.order 4 p) l.first (take l.block-index l.blocks));
  offset : l.offset ≡ state (λ p b. p + length b.now) l.first (take l.block-index l.blocks);
}
