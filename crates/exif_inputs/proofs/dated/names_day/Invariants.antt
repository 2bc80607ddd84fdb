use Rattle.std.proofs.Common.{◌≡◌, drop}
use Rattle.exif_inputs.specs.Dated.{names_day, names_day_from}
use Rattle.exif_inputs.proofs.dated.names_day.Given as goal

-- the rest of the name decides
abbrev pub invariant-loop-at : goal.invariant-loop-at
invariant-loop-at l = names_day l.name ≡ names_day_from l.follows (drop l.at l.name)
