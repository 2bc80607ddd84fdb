use Rattle.std.proofs.Common.{◌≡◌, ◌≤◌, ◌-◌, length, drop}
use Rattle.std.specs.Str.{bytes_eq}
use Rattle.exif_blanks.specs.Steps.{bared, bared_from}
use Rattle.exif_blanks.proofs.steps.is_bared.Given as goal

-- those that are left decide
abbrev pub invariant-loop-at : goal.invariant-loop-at
invariant-loop-at l = record {
  same : bytes_eq (bared_from (length (drop l.at l.old)) l.next (drop l.at l.old)) (drop l.at l.new)
      ≡ bytes_eq (bared l.fn.place l.old) l.new;
  within : l.at ≤ length l.old;
}

abbrev pub decreases-loop-at : goal.decreases-loop-at
decreases-loop-at l = length l.old - l.at
