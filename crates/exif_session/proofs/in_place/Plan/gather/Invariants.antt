use Rattle.std.proofs.Common.{◌≡◌, length}
use Rattle.exif_session.proofs.in_place.Plan.gather.Given as goal

-- each file has a key
abbrev pub invariant-loop : goal.invariant-loop
invariant-loop g l = length l.plan.keys.items ≡ length l.plan.paths.items
