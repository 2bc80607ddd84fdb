use Rattle.std.proofs.Common.{◌≡◌, drop}
use Rattle.exif_blanks.specs.HeifBlanks.{all_are}
use Rattle.exif_blanks.proofs.bytes.all_are.Given as goal

-- those that are left decide
abbrev pub invariant-loop-x : goal.invariant-loop-x
invariant-loop-x l = all_are l.b (drop l.x-index l.bytes) ≡ all_are l.b l.bytes
