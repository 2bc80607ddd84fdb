use Rattle.std.proofs.Common.{◌≡◌, ◌≤◌, ◌-◌, length, drop}
use Rattle.exif_locations.specs.IptcDatasets.{either, found, found_by}
use Rattle.exif_locations.proofs.iptc.erase.find.Given as goal

abbrev pub invariant-loop-at : goal.invariant-loop-at
invariant-loop-at l = record {
  rest : found l.input ≡ either l.found (found_by (length (drop l.at l.input)) (drop l.at l.input));
  within : l.at ≤ length l.input;
}

abbrev pub decreases-loop-at : goal.decreases-loop-at
decreases-loop-at l = length l.input - l.at
