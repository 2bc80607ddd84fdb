use Rattle.std.proofs.Common.{◌≡◌, drop, map}
use Rattle.exif_packets.specs.PngPackets.{text_view}
use Rattle.exif_values.specs.Readings.{with_texts}
use Rattle.exif_values.specs.Values.{values_view}
use Rattle.exif_values.proofs.reading.add_texts.Given as goal

-- the texts that are left add what all of them do
abbrev pub invariant-loop-text : goal.invariant-loop-text
invariant-loop-text l =
    with_texts (map text_view (drop l.text-index l.texts)) (values_view l.values)
    ≡ with_texts (map text_view l.texts) (values_view l.fn.values)
