use Rattle.exif_base.specs.Orders.{number_of}
use Rattle.exif_grow.proofs.AlikeSteps.{span_within}
use Rattle.exif_grow.proofs.alike.value_kept.Goals as goal

pub copied-requires : goal.copied-requires
copied-requires c =
    rw c.value_span-span.ensures
    (span_within (number_of c.args.order) c.args.bytes.now c.args.entry)
