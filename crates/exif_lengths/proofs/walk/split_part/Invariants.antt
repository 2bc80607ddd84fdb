use Rattle.std.proofs.Common.{drop, false, length, take}
use Rattle.exif_lengths.specs.Walks.{walk_view}
use Rattle.exif_lengths.proofs.WalkSteps.{Splits}
use Rattle.exif_lengths.proofs.walk.split_part.Given as goal

-- the parts with those of what is left are those of all bytes
abbrev pub invariant-loop-rest : goal.invariant-loop-rest
invariant-loop-rest l =
    Splits l.fn.format l.fn.part.picture (length l.file)
    (take l.fn.part.len (drop l.fn.part.offset l.file))
    (record { parts = l.fn.parts.items; from = l.fn.part.offset; len = 0; scanning = false })
    l.rest (walk_view l.walk)

abbrev pub decreases-loop-rest : goal.decreases-loop-rest
decreases-loop-rest l = length l.rest
