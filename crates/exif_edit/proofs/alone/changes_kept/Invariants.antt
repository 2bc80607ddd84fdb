use Rattle.std.proofs.Common.{◌≡◌, false, take}
use Rattle.std.specs.Prelude.{◌&&◌, not}
use Rattle.std.specs.List.{list_any}
use Rattle.exif_base.specs.Orders.{number_of}
use Rattle.exif_tiff.specs.Footprint.{looked_at}
use Rattle.exif_tiff.specs.declared.offset.DirectoryOffset.{DirectoryOffset}
use Rattle.exif_edit.specs.Changing.{changes}
use Rattle.exif_edit.specs.Erasing.{is_gps}
use Rattle.exif_edit.proofs.alone.changes_kept.Given as goal

-- no directory so far is kept and changed
abbrev pub invariant-loop-directory : goal.invariant-loop-directory
invariant-loop-directory l =
    list_any
    (λ (d : DirectoryOffset). not (is_gps d.context)
    && list_any (changes l.patches) (looked_at (number_of l.order) l.bytes d.offset))
    (take l.directory-index l.directories) ≡ false
