use Rattle.std.proofs.Common.{◌≡◌, ◌++◌, take, drop}
use Rattle.exif_writer.specs.Sending.{settle, values_end}
use Rattle.exif_writer.proofs.plan.settle.Given as goal

abbrev pub invariant-loop-slot : goal.invariant-loop-slot
invariant-loop-slot l = record {
  end : l.end ≡ values_end l.start (take l.slot-index l.initial.slots);
  settled : l.slots ≡ settle l.start (take l.slot-index l.initial.slots) ++ drop l.slot-index l.initial.slots;
}
