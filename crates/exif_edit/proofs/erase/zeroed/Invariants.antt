use Rattle.std.proofs.Common.{◌≡◌, ◌++◌, map, drop}
use Rattle.std.specs.List.{flat_map}
use Rattle.exif_base.specs.Orders.{number_of}
use Rattle.exif_edit_base.specs.Patches.{zeros_over}
use Rattle.exif_edit.specs.Erasing.{directory_spans}
use Rattle.exif_edit.proofs.erase.zeroed.Given as goal

-- what is left of the directories adds what all of them do
abbrev pub invariant-loop-offset : goal.invariant-loop-offset
invariant-loop-offset l =
    l.patches.items
    ++ map zeros_over
    (flat_map (directory_spans (number_of l.order) l.bytes) (drop l.offset-index l.directories))
    ≡ map zeros_over (flat_map (directory_spans (number_of l.order) l.bytes) l.directories)
