use Rattle.std.proofs.Common.{◌≡◌, map, take}
use Rattle.exif_iptc.specs.Values.{value_of, value_view}
use Rattle.exif_iptc.proofs.value.values_of.Given as goal

abbrev pub invariant-loop-i : goal.invariant-loop-i
invariant-loop-i l = map value_view l.values.items ≡ map (value_of l.input l.charset) (take l.i l.datasets)
