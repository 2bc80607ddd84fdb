use Rattle.std.proofs.Common.{◌≡◌, drop}
use Rattle.exif_change.specs.Notes.{highest}
use Rattle.exif_change.proofs.notes.highest.Given as goal

-- the parts that are left raise the number as all do
abbrev pub invariant-loop-part : goal.invariant-loop-part
invariant-loop-part l = highest (drop l.part-index l.parts) l.most ≡ highest l.parts 0
