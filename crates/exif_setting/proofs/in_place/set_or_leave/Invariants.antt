use Rattle.std.proofs.Common.{◌≡◌}
use Rattle.std.specs.Vec.Iter.{into_iter_items}
use Rattle.exif_setting.specs.InPlace.{fitting_set}
use Rattle.exif_setting.proofs.in_place.set_or_leave.Given as goal

-- what is left of the fields makes the same of the file and of those that are left over
abbrev pub invariant-loop-field : goal.invariant-loop-field
invariant-loop-field l =
    fitting_set (into_iter_items l.field-iterator) (l.file, l.left.items)
    ≡ fitting_set l.fn.fields.items (l.fn.file, l.fn.left.items)
