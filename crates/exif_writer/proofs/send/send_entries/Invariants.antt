use Rattle.std.proofs.Common.{take}
use Rattle.exif_writer.specs.Sending.{entries_text}
use Rattle.exif_writer.proofs.SendChains.{HasSent}
use Rattle.exif_writer.proofs.send.send_entries.Given as goal

abbrev pub invariant-loop-slot : goal.invariant-loop-slot
invariant-loop-slot g l = HasSent g.W.Sink l.initial.out l.out (entries_text l.order l.offsets (take l.slot-index l.slots))
