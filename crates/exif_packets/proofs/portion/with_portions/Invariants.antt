use Rattle.std.proofs.Common.{◌≡◌, drop}
use Rattle.exif_packets.specs.Portions.{prefix_view, nothing, with_portions}
use Rattle.exif_packets.proofs.portion.with_portions.Given as goal

-- the packets that are left add to what is joined what all of them add to nothing
abbrev pub invariant-loop-packet : goal.invariant-loop-packet
invariant-loop-packet l =
    with_portions l.fn.file l.fn.id (drop l.packet-index l.packets) (prefix_view l.joined)
    ≡ with_portions l.fn.file l.fn.id l.packets nothing
