use Rattle.std.proofs.Common.{◌≡◌, take, None}
use Rattle.exif_layout.specs.Refused.{first_group_fault}
use Rattle.exif_writer.proofs.measure.first_fault.Given as goal

abbrev pub invariant-loop-ifd : goal.invariant-loop-ifd
invariant-loop-ifd l = first_group_fault (take l.ifd-index l.ifds) ≡ None
