use Rattle.std.proofs.Common.{◌≡◌, length}
use Rattle.exif_isobmff.specs.Boxes.{children}
use Rattle.exif_isobmff.specs.Heif.{tables_of}
use Rattle.exif_isobmff.specs.TablesView.{tables_view}
use Rattle.exif_isobmff.proofs.TablesChildren.{tables_from}
use Rattle.exif_isobmff.proofs.tables.child_tables.Given as goal

-- what counted, with what is still read, is what counts in all
abbrev pub invariant-loop-boxes : goal.invariant-loop-boxes
invariant-loop-boxes l = tables_from (tables_view l.tables) (children l.boxes) ≡ tables_of (children l.fn.boxes)

abbrev pub decreases-loop-boxes : goal.decreases-loop-boxes
decreases-loop-boxes l = length l.boxes
