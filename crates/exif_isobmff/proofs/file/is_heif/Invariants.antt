use Rattle.std.proofs.Common.{◌≡◌, length}
use Rattle.exif_isobmff.specs.Boxes.{children}
use Rattle.exif_isobmff.specs.HeifFile.{begins_heif}
use Rattle.exif_isobmff.proofs.FileBoxes.{heif_of}
use Rattle.exif_isobmff.proofs.file.is_heif.Given as goal

abbrev pub invariant-loop-kind : goal.invariant-loop-kind
invariant-loop-kind l = heif_of (children l.boxes) ≡ begins_heif l.bytes

abbrev pub decreases-loop-kind : goal.decreases-loop-kind
decreases-loop-kind l = length l.boxes
