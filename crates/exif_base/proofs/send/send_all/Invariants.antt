use Rattle.std.proofs.Common.{◌≡◌, ◌≤◌, ◌-◌, length, take}
use Rattle.std.specs.Io.KnownBytes.{Appends}
use Rattle.exif_base.proofs.send.send_all.Given as goal

abbrev pub invariant-loop-at : goal.invariant-loop-at
invariant-loop-at g l = record {
  in_range : l.at ≤ length l.bytes;
  sent : Appends (g.W.Sink.taken l.initial.sink) (g.W.Sink.taken l.sink) (take l.at l.bytes);
  count : g.W.Sink.failures l.sink ≡ g.W.Sink.failures l.initial.sink;
  same : g.W.Sink.through l.sink ≡ g.W.Sink.through l.initial.sink;
}

abbrev pub decreases-loop-at : goal.decreases-loop-at
decreases-loop-at g l = length l.initial.bytes - l.at
