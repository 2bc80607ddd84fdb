use Rattle.std.proofs.Common.{◌≡◌, drop, map}
use Rattle.exif_iptc.specs.Values.{value_view}
use Rattle.exif_values.specs.Datasets.{first_dataset}
use Rattle.exif_values.proofs.datasets.first_dataset.Given as goal

-- the first text of the values that are left is that of all
abbrev pub invariant-loop-value : goal.invariant-loop-value
invariant-loop-value l =
    first_dataset l.number (map value_view (drop l.value-index l.values))
    ≡ first_dataset l.number (map value_view l.values)
