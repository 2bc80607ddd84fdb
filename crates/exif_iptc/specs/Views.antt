-- What clauses see of the values of the code.
use Rattle.exif_iptc.specs.declared.dataset.Scanned.{Scanned}
use Rattle.exif_iptc.specs.Datasets.{ScanOutcome}

abbrev pub scan_view : Scanned → ScanOutcome
scan_view s = record { datasets = s.datasets.items; refusal = s.refusal }
