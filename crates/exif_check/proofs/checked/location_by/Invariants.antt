use Rattle.std.proofs.Common.{◌≡◌, drop}
use Rattle.exif_check.specs.Checking.{location_by, location_by_from}
use Rattle.exif_check.proofs.checked.location_by.Given as goal

-- what the reasons that are left say, behind what the others do, is what all say
abbrev pub invariant-loop-why : goal.invariant-loop-why
invariant-loop-why l = location_by_from l.all (drop l.why-index l.whys) ≡ location_by l.whys
