use Rattle.std.proofs.Common.{◌≡◌, length}
use Rattle.exif_isobmff.specs.Extents.{behind_meta}
use Rattle.exif_isobmff.specs.HeifFile.{file_boxes, meta_body, meta_from}
use Rattle.exif_isobmff.proofs.file.meta_of.Given as goal

-- what the boxes that are left answer is the answer, and what follows `meta` among them follows it
abbrev pub invariant-loop-boxes : goal.invariant-loop-boxes
invariant-loop-boxes l = record {
  body : meta_from l.seen (file_boxes l.boxes) ≡ meta_body l.file;
  behind : behind_meta l.boxes ≡ behind_meta l.file;
}

abbrev pub decreases-loop-boxes : goal.decreases-loop-boxes
decreases-loop-boxes l = length l.boxes
