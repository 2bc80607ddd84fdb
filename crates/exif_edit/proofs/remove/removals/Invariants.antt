use Rattle.std.proofs.Common.{◌≡◌, ◌++◌, map, drop}
use Rattle.std.specs.List.{flat_map}
use Rattle.exif_base.specs.Orders.{number_of}
use Rattle.exif_edit_base.specs.Patches.{zeros_over}
use Rattle.exif_edit.specs.Removing.{directory_patches, removals, taken_spans}
use Rattle.exif_edit.proofs.remove.removals.Given as goal

-- what is left of the directories adds what all of them do
abbrev pub invariant-loop-offset : goal.invariant-loop-offset
invariant-loop-offset l =
    l.patches.items ++ flat_map (directory_patches l.order l.bytes l.number)
    (drop l.offset-index l.offsets)
    ≡ flat_map (directory_patches l.order l.bytes l.number) l.offsets

-- the same of their values
abbrev pub invariant-loop-offset-2 : goal.invariant-loop-offset-2
invariant-loop-offset-2 l =
    l.patches.items
    ++ map zeros_over
    (flat_map (taken_spans (number_of l.order) l.bytes l.number) (drop l.offset-index l.offsets))
    ≡ removals l.order l.bytes l.number l.offsets
