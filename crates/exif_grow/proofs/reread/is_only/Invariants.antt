use Rattle.std.proofs.Common.{◌≡◌, false, drop}
use Rattle.exif_grow.specs.Inserting.{is_only}
use Rattle.exif_grow.proofs.reread.is_only.Given as goal

abbrev pub invariant-loop-other : goal.invariant-loop-other
invariant-loop-other l =
    is_only l.fn.tag l.fn.ifd_num l.fn.field l.seen (drop l.other-index l.fields)
    ≡ is_only l.fn.tag l.fn.ifd_num l.fn.field false l.fn.fields
