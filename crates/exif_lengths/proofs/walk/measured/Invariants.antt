use Rattle.std.proofs.Common.{◌≡◌, All, drop, length}
use Rattle.exif_inventory.specs.Promises.{EndsIn}
use Rattle.exif_lengths.specs.Walks.{measured, measured_from}
use Rattle.exif_lengths.proofs.WalkSteps.{Orders}
use Rattle.exif_lengths.proofs.walk.measured.Given as goal

-- the parts that are left, behind those so far, are all
abbrev pub invariant-loop-part : goal.invariant-loop-part
invariant-loop-part l =
    (measured_from l.format l.file l.all.items (drop l.part-index l.parts) ≡ measured l.format l.file l.parts)
    × Orders (length l.file) l.all.items (drop l.part-index l.parts)
    × All (EndsIn (length l.file)) l.all.items
