use Rattle.std.proofs.Common.{◌≡◌, drop, []}
use Rattle.std.specs.String.{string_bytes}
use Rattle.exif_check.specs.Lines.{lines_from}
use Rattle.exif_check.proofs.lines.lines_from.Given as goal

-- the lines so far, and behind them those of the parts that are left, are those of all
abbrev pub invariant-loop-checked : goal.invariant-loop-checked
invariant-loop-checked l =
    lines_from l.name (string_bytes l.text) l.last (drop l.checked-index l.parts)
    ≡ lines_from l.name [] l.initial.last l.parts
