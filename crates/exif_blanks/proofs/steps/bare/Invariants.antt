use Rattle.std.proofs.Common.{◌≡◌, ◌≤◌, ◌-◌, ◌++◌, length, take, drop}
use Rattle.exif_blanks.specs.Steps.{bared, bared_from}
use Rattle.exif_blanks.proofs.steps.bare.Given as goal

-- the bytes so far, and what becomes of those that are left, are what becomes of all
abbrev pub invariant-loop-at : goal.invariant-loop-at
invariant-loop-at l = record {
  made : take l.at l.bytes ++ bared_from (length (drop l.at l.bytes)) l.next (drop l.at l.bytes)
      ≡ bared l.fn.place l.fn.bytes;
  within : l.at ≤ length l.bytes;
  long : length l.bytes ≡ length l.fn.bytes;
}

abbrev pub decreases-loop-at : goal.decreases-loop-at
decreases-loop-at l = length l.bytes - l.at
