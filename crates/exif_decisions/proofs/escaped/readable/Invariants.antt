use Rattle.std.proofs.Common.{◌≡◌, ◌++◌, length, string_bytes}
use Rattle.exif_decisions.specs.Escaping.{readable}
use Rattle.exif_decisions.proofs.escaped.readable.Given as goal

-- the text so far, and that of the bytes that are left, are all
abbrev pub invariant-loop-rest : goal.invariant-loop-rest
invariant-loop-rest l = string_bytes l.text ++ readable l.rest ≡ readable l.name

abbrev pub decreases-loop-rest : goal.decreases-loop-rest
decreases-loop-rest l = length l.rest
