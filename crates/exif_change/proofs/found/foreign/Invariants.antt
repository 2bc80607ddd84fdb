use Rattle.std.proofs.Common.{◌≡◌, [], drop}
use Rattle.exif_change.specs.Found.{foreign}
use Rattle.exif_change.proofs.found.foreign.Given as goal

-- the parts that are left add to what was found what all add to nothing
abbrev pub invariant-loop-part : goal.invariant-loop-part
invariant-loop-part l =
    foreign l.put (drop l.part-index l.parts) l.found.items ≡ foreign l.put l.parts []
