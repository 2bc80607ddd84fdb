use Rattle.std.proofs.Common.{◌≡◌, ◌-◌}
use Rattle.exif_base.specs.Orders.{number_of}
use Rattle.exif_edit_base.specs.GpsOffsets.{all_directories, children_from, max_directories}
use Rattle.exif_edit_base.proofs.offsets.all_directories.Given as goal

-- what is left of the directories gives all
abbrev pub invariant-loop-i : goal.invariant-loop-i
invariant-loop-i l =
    children_from (max_directories - l.i) (number_of l.order) l.bytes l.i l.found.items
    ≡ all_directories (number_of l.order) l.bytes
