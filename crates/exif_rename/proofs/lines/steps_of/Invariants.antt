use Rattle.std.proofs.Common.{take}
use Rattle.exif_rename.proofs.LineTexts.{AreOf}
use Rattle.exif_rename.proofs.lines.steps_of.Given as goal

-- the steps so far are those of the lines so far
abbrev pub invariant-loop-index : goal.invariant-loop-index
invariant-loop-index l = AreOf (take l.index l.line-items) l.steps.items
