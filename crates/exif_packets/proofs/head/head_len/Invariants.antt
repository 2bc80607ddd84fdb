use Rattle.std.proofs.Common.{◌≡◌, ◌≤◌, ◌-◌, drop, length}
use Rattle.exif_packets.specs.Heads.{head_by, head_len}
use Rattle.exif_packets.proofs.head.head_len.Given as goal

abbrev pub invariant-loop : goal.invariant-loop
invariant-loop l = record {
  rest : head_by (length l.prefix - l.counter) l.at (drop l.at l.prefix) ≡ head_len l.prefix;
  within : l.at ≤ length l.prefix;
}
