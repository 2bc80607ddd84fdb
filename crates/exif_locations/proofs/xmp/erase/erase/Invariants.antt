use Rattle.std.proofs.Common.{◌≡◌, ◌≤◌, ◌-◌, length, take, drop}
use Rattle.exif_locations.specs.XmpErasing.{behind, erased, erased_by}
use Rattle.exif_locations.proofs.xmp.erase.erase.Given as goal

abbrev pub invariant-loop-at : goal.invariant-loop-at
invariant-loop-at l = record {
  rest : erased l.fn.packet ≡ behind (take l.at l.packet) (erased_by (length (drop l.at l.packet)) l.state (drop l.at l.packet));
  len : length l.packet ≡ l.len;
  within : l.at ≤ l.len;
  depth : l.state.depth ≤ l.at;
}

abbrev pub decreases-loop-at : goal.decreases-loop-at
decreases-loop-at l = l.len - l.at
