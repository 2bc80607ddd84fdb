use Rattle.std.proofs.Common.{◌≡◌, ◌++◌, drop, map}
use Rattle.exif_iptc.specs.Values.{value_view}
use Rattle.exif_values.specs.Datasets.{dataset_texts}
use Rattle.exif_values.proofs.datasets.dataset_texts.Given as goal

-- the texts so far and those of the values that are left are those of all
abbrev pub invariant-loop-value : goal.invariant-loop-value
invariant-loop-value l =
    map (λ t. t.items) l.texts.items
    ++ dataset_texts l.number (map value_view (drop l.value-index l.values))
    ≡ dataset_texts l.number (map value_view l.values)
