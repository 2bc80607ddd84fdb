use Rattle.std.proofs.Common.{◌≡◌, drop}
use Rattle.exif_edit_base.specs.GpsOffsets.{all_noted}
use Rattle.exif_edit_base.proofs.offsets.note_all.Given as goal

-- what is left of the directories notes what all of them do
abbrev pub invariant-loop-offset : goal.invariant-loop-offset
invariant-loop-offset l =
    all_noted l.bytes l.found.items (drop l.offset-index l.offsets)
    ≡ all_noted l.bytes l.fn.found.items l.offsets
