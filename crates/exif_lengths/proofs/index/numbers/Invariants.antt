use Rattle.std.proofs.Common.{◌≡◌, ◌≤◌, drop}
use Rattle.exif_lengths.specs.Index.{numbers}
use Rattle.exif_lengths.proofs.index.numbers.Given as goal

-- the bytes that are left are as many numbers more as all are; each number has a byte
abbrev pub invariant-loop-byte : goal.invariant-loop-byte
invariant-loop-byte l =
    (numbers l.begun l.count (drop l.byte-index l.bytes) ≡ numbers 0 0 l.bytes)
    × (l.count ≤ l.byte-index)
