use Rattle.std.proofs.Common.{◌≡◌, ◌≤◌, ◌-◌, length, take, drop}
use Rattle.exif_locations.specs.IptcDatasets.{behind, erased, erased_by}
use Rattle.exif_locations.proofs.iptc.erase.erase.Given as goal

abbrev pub invariant-loop-at : goal.invariant-loop-at
invariant-loop-at l = record {
  rest : erased l.fn.input ≡ behind (take l.at l.input) (erased_by (length (drop l.at l.input)) (drop l.at l.input));
  len : length l.input ≡ l.len;
  within : l.at ≤ l.len;
}

abbrev pub decreases-loop-at : goal.decreases-loop-at
decreases-loop-at l = l.len - l.at
