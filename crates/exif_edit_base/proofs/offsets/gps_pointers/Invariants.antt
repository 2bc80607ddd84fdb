use Rattle.std.proofs.Common.{◌≡◌, ◌++◌, drop}
use Rattle.std.specs.List.{flat_map}
use Rattle.exif_base.specs.Orders.{number_of}
use Rattle.exif_edit_base.specs.GpsOffsets.{pointers}
use Rattle.exif_edit_base.specs.declared.offsets.Target.TheVariants.{Gps}
use Rattle.exif_edit_base.proofs.offsets.gps_pointers.Given as goal

-- what is left of the directories adds what all of them do
abbrev pub invariant-loop-directory : goal.invariant-loop-directory
invariant-loop-directory l =
    l.all.items
    ++ flat_map (pointers Gps (number_of l.order) l.bytes) (drop l.directory-index l.directories)
    ≡ flat_map (pointers Gps (number_of l.order) l.bytes) l.directories
