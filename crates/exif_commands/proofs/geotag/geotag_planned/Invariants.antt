use Rattle.std.proofs.Common.{◌≡◌, length}
use Rattle.exif_commands.proofs.geotag.geotag_planned.Given as goal

-- nothing waits
abbrev pub invariant-loop-path : goal.invariant-loop-path
invariant-loop-path g l = length l.session.pending.waiting.items ≡ 0
