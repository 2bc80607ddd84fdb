use Rattle.std.proofs.Common.{◌≡◌, length}
use Rattle.exif_rename_commands.proofs.present.look_up.Given as goal

abbrev pub invariant-loop-number : goal.invariant-loop-number
invariant-loop-number l = length l.found.items ≡ l.number
