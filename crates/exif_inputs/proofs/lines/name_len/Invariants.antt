use Rattle.std.proofs.Common.{◌≡◌, drop}
use Rattle.exif_inputs.specs.Lines.{len_through, name_len}
use Rattle.exif_inputs.proofs.lines.name_len.Given as goal

abbrev pub invariant-loop-at : goal.invariant-loop-at
invariant-loop-at l = len_through l.at l.spaces (drop l.at l.line) ≡ name_len l.line
