use Rattle.std.proofs.Common.{◌≡◌, ◌++◌, drop}
use Rattle.std.specs.List.{flat_map}
use Rattle.exif_packets.specs.Fields.{number_bytes}
use Rattle.exif_packets.proofs.field.numbers_bytes.Given as goal

-- the numbers that are left add the bytes that all of them have
abbrev pub invariant-loop-x : goal.invariant-loop-x
invariant-loop-x l =
    l.bytes.items ++ flat_map (number_bytes l.little_endian) (drop l.x-index l.xs)
    ≡ flat_map (number_bytes l.little_endian) l.xs
