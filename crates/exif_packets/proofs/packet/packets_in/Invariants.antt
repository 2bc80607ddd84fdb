use Rattle.std.proofs.Common.{◌≡◌, ◌++◌, drop}
use Rattle.std.specs.List.{filter_map}
use Rattle.exif_packets.specs.Packets.{packet_of}
use Rattle.exif_packets.proofs.packet.packets_in.Given as goal

-- the parts that are left add what all of them do
abbrev pub invariant-loop-part : goal.invariant-loop-part
invariant-loop-part l =
    l.packets.items ++ filter_map packet_of (drop l.part-index l.parts)
    ≡ filter_map packet_of l.parts
