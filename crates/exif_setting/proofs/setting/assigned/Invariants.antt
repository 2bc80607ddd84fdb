use Rattle.std.proofs.Common.{◌≡◌, [], drop}
use Rattle.exif_setting.specs.InPlace.{sets_of}
use Rattle.exif_change.specs.Reading.{fields_read}
use Rattle.exif_setting.specs.Setting.{assigned_behind}
use Rattle.exif_setting.proofs.setting.assigned.Given as goal

-- the assignments that are left make the same fields
abbrev pub invariant-loop-index : goal.invariant-loop-index
invariant-loop-index l =
    assigned_behind (fields_read l.exif) (drop l.index l.assignments) (sets_of l.sets)
    ≡ assigned_behind (fields_read l.exif) l.assignments ([], [])
