use Rattle.std.proofs.Common.{◌≡◌, false, take}
use Rattle.std.specs.List.{list_any}
use Rattle.exif_base.specs.Orders.{number_of}
use Rattle.exif_tiff.specs.declared.offset.DirectoryOffset.{DirectoryOffset}
use Rattle.exif_edit.specs.Changing.{changes}
use Rattle.exif_edit.specs.Sharing.{beside}
use Rattle.exif_edit.proofs.alone.changes_any_beside.Given as goal

-- no directory so far is changed
abbrev pub invariant-loop-directory : goal.invariant-loop-directory
invariant-loop-directory l =
    list_any
    (λ (d : DirectoryOffset). list_any (changes l.patches)
    (beside (number_of l.order) l.bytes l.entry d.offset))
    (take l.directory-index l.directories) ≡ false
