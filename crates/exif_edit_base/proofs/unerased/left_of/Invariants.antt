use Rattle.std.proofs.Common.{◌≡◌, take}
use Rattle.std.specs.List.{filter}
use Rattle.exif_edit_base.specs.GpsOffsets.{is_left}
use Rattle.exif_edit_base.proofs.unerased.left_of.Given as goal

-- those so far
abbrev pub invariant-loop-offset : goal.invariant-loop-offset
invariant-loop-offset l =
    l.left.items ≡ filter (is_left l.bytes l.erased) (take l.offset-index l.pointers)
