use Rattle.std.proofs.Common.{◌≡◌, ◌++◌, map}
use Rattle.std.specs.List.{filter_map}
use Rattle.exif_packets.specs.Fields.{held_view, packet_in}
use Rattle.exif_packets.proofs.field.packets_of_fields.Given as goal

-- the fields that are left add what all of them do
abbrev pub invariant-loop-field : goal.invariant-loop-field
invariant-loop-field l =
    map held_view l.packets.items
    ++ filter_map (packet_in l.exif.little_endian) l.field-iterator
    ≡ filter_map (packet_in l.exif.little_endian) l.exif.fields
