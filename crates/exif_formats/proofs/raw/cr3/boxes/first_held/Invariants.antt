use Rattle.std.proofs.Common.{◌≡◌, length}
use Rattle.exif_formats.specs.Cr3.{first_held}
use Rattle.exif_formats.proofs.raw.cr3.boxes.first_held.Given as goal

-- what the boxes that are left hold is the answer
abbrev pub invariant-loop-boxes : goal.invariant-loop-boxes
invariant-loop-boxes l = first_held l.name l.usertype l.boxes ≡ first_held l.fn.name l.fn.usertype l.fn.bytes

abbrev pub decreases-loop-boxes : goal.decreases-loop-boxes
decreases-loop-boxes l = length l.boxes
