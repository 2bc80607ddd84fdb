use Rattle.std.proofs.Common.{◌≡◌, drop, map}
use Rattle.exif_packets.specs.Fields.{held_view}
use Rattle.exif_values.specs.Readings.{with_fields, with_held_packets}
use Rattle.exif_values.specs.Values.{values_view}
use Rattle.exif_values.proofs.reading.read_fields.Given as goal

-- the packets that are left add what all of them do
abbrev pub invariant-loop-packet : goal.invariant-loop-packet
invariant-loop-packet l =
    with_held_packets (map held_view (drop l.packet-index l.packet-items)) (values_view l.values)
    ≡ with_fields l.fn.exif.little_endian l.fn.exif.fields (values_view l.fn.values)
