use Rattle.std.proofs.Common.{◌≡◌, ◌≤◌, ◌-◌, length, drop}
use Rattle.exif_locations.specs.XmpErasing.{either, found, found_by}
use Rattle.exif_locations.proofs.xmp.erase.find.Given as goal

abbrev pub invariant-loop-at : goal.invariant-loop-at
invariant-loop-at l = record {
  rest : found l.packet ≡ either l.found (found_by (length (drop l.at l.packet)) l.state (drop l.at l.packet));
  within : l.at ≤ length l.packet;
  depth : l.state.depth ≤ l.at;
}

abbrev pub decreases-loop-at : goal.decreases-loop-at
decreases-loop-at l = length l.packet - l.at
