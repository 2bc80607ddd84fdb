use Rattle.std.proofs.Common.{◌≡◌, drop}
use Rattle.exif_decisions.specs.Rules.{assigns}
use Rattle.exif_decisions.proofs.rules.is_assignment.Given as goal

abbrev pub invariant-loop-byte : goal.invariant-loop-byte
invariant-loop-byte l = assigns l.word ≡ assigns (drop l.byte-index l.word)
