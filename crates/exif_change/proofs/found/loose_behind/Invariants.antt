use Rattle.std.proofs.Common.{◌≡◌, [], drop, true}
use Rattle.exif_change.specs.Found.{loose_behind}
use Rattle.exif_change.proofs.found.loose_behind.Given as goal

-- the parts that are left add to what was found what all add to nothing
abbrev pub invariant-loop-part : goal.invariant-loop-part
invariant-loop-part l =
    loose_behind l.file l.belonged (drop l.part-index l.parts) l.found.items
    ≡ loose_behind l.file true l.parts []
