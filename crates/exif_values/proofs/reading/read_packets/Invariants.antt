use Rattle.std.proofs.Common.{◌≡◌, drop, true}
use Rattle.exif_values.specs.Readings.{with_packets}
use Rattle.exif_values.specs.Values.{nothing, values_view}
use Rattle.exif_values.proofs.reading.read_packets.Given as goal

-- the packets that are left add what all of them do
abbrev pub invariant-loop-packet : goal.invariant-loop-packet
invariant-loop-packet l =
    with_packets l.is_first l.fn.file l.packets (drop l.packet-index l.packets)
    (values_view l.values)
    ≡ with_packets true l.fn.file l.packets l.packets nothing
