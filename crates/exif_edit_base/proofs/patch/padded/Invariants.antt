use Rattle.std.proofs.Common.{◌≡◌, ◌++◌, replicate}
use Rattle.exif_edit_base.proofs.patch.padded.Given as goal

abbrev pub invariant-loop : goal.invariant-loop
invariant-loop l = l.out.items ≡ l.encoded ++ replicate l.counter 0
