use Rattle.std.proofs.Common.{arith}
use Rattle.exif_layout.proofs.Images.Counting.{slots_sorted}
use Rattle.exif_writer.proofs.MeasureTails.{span_beyond}
use Rattle.exif_layout.specs.Slots.{unsorted}
use Rattle.exif_writer.proofs.measure.values_end.Goals as goal

pub returns-in_err-context_tail : goal.returns-in_err-context_tail
returns-in_err-context_tail c =
    let far = span_beyond c.args.offset c.args.ifd.now c.args.context c.requires.offset c.in_err-context_tail.ensures.over in
    rw c.from_residual.ensures (λ less. omega arith)

pub returns : goal.returns
returns c = rw (slots_sorted c.args.ifd.now c.args.context) (c.end.ensures (unsorted c.args.ifd.now c.args.context) c.in_ok-context_tail.ensures.told)
