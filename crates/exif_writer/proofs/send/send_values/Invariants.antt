use Rattle.std.proofs.Common.{take}
use Rattle.exif_writer.specs.Sending.{values_text}
use Rattle.exif_writer.proofs.SendChains.{HasSent}
use Rattle.exif_writer.proofs.send.send_values.Given as goal

abbrev pub invariant-loop-slot : goal.invariant-loop-slot
invariant-loop-slot g l = HasSent g.W.Sink l.initial.out l.out (values_text l.order l.offsets (take l.slot-index l.slots))
