use Rattle.std.proofs.Common.{◌≡◌, drop, map}
use Rattle.std.specs.String.{string_bytes}
use Rattle.exif_iptc.specs.Values.{value_view}
use Rattle.exif_show_text.specs.Lines.{iptc_behind}
use Rattle.exif_show_text.proofs.lines.of_datasets.Given as goal

-- the text so far, and behind it the lines of the datasets that are left, is the whole text
abbrev pub invariant-loop-value : goal.invariant-loop-value
invariant-loop-value l =
    iptc_behind (string_bytes l.text) (map value_view (drop l.value-index l.values))
    ≡ iptc_behind (string_bytes l.fn.text) (map value_view l.values)
