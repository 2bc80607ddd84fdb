use Rattle.std.proofs.Common.{◌≡◌, map, take, Some}
use Rattle.exif_change.specs.Changed.{stays, undone_of}
use Rattle.exif_change.proofs.scrubbing.all_stay.Given as goal

-- the parts so far
abbrev pub invariant-loop-part : goal.invariant-loop-part
invariant-loop-part l = map undone_of l.left.items ≡ map (λ part. Some (stays part)) (take l.part-index l.parts)
