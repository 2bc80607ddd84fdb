use Rattle.std.proofs.Common.{◌≡◌, ◌++◌, drop}
use Rattle.exif_privacy.specs.Portions.{joined}
use Rattle.exif_privacy.proofs.portions.join.Given as goal

-- the portions so far, and those that are left, are all
abbrev pub invariant-loop-part : goal.invariant-loop-part
invariant-loop-part l =
    l.packet.items ++ joined (drop l.part-index l.parts) l.file ≡ joined l.parts l.file
