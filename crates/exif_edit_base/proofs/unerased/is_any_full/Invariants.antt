use Rattle.std.proofs.Common.{◌≡◌, false, take}
use Rattle.std.specs.List.{list_any}
use Rattle.exif_base.specs.Orders.{number_of}
use Rattle.exif_edit_base.specs.GpsOffsets.{is_full}
use Rattle.exif_edit_base.proofs.unerased.is_any_full.Given as goal

-- no directory so far is full
abbrev pub invariant-loop-directory : goal.invariant-loop-directory
invariant-loop-directory l =
    list_any (is_full (number_of l.order) l.bytes) (take l.directory-index l.directories) ≡ false
