use Rattle.std.proofs.Common.{◌≡◌, drop, take}
use Rattle.exif_datetime.specs.Numbers.{cut, cut_behind}
use Rattle.exif_datetime.proofs.numbers.cut.Given as goal

-- no byte so far is the mark
abbrev pub invariant-loop-at : goal.invariant-loop-at
invariant-loop-at l = cut_behind l.mark (take l.at l.text) (drop l.at l.text) ≡ cut l.mark l.text
