use Rattle.std.proofs.Common.{◌≡◌, drop}
use Rattle.exif_check.specs.Checking.{location_behind, location_of}
use Rattle.exif_check.proofs.checked.location_of.Given as goal

-- the judgement of those that are left, behind that of the others, is that of all
abbrev pub invariant-loop-checked : goal.invariant-loop-checked
invariant-loop-checked l =
    location_behind l.all (drop l.checked-index l.parts) ≡ location_of l.parts
