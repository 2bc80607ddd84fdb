use Rattle.std.proofs.Common.{◌≡◌, drop}
use Rattle.exif_inputs.specs.Lines.{line_len}
use Rattle.exif_inputs.proofs.lines.line_len.Given as goal

abbrev pub invariant-loop-at : goal.invariant-loop-at
invariant-loop-at l = line_len l.at (drop l.at l.bytes) ≡ line_len 0 l.bytes
