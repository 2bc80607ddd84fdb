use Rattle.std.proofs.Common.{◌≡◌, ◌≤◌, ◌-◌, drop, length}
use Rattle.exif_iptc.specs.Datasets.{scan, scan_by}
use Rattle.exif_iptc.proofs.dataset.scan.Given as goal

abbrev pub invariant-loop : goal.invariant-loop
invariant-loop l = record {
  rest : scan_by (length l.input - l.counter) l.offset l.found.items (drop l.offset l.input) ≡ scan l.input;
  within : l.offset ≤ length l.input;
}
