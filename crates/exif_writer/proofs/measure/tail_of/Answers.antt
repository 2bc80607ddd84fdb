use Rattle.std.proofs.Common.{◌∙◌, ◌+◌, arith, ap, refl, sym, take}
use Rattle.exif_writer.proofs.MeasureTails.{of_fields, of_more, span_front, known_len, known_at, over_alone, at_least}
use Rattle.exif_layout.specs.Encoding.{value_len}
use Rattle.exif_layout.specs.Groups.{entry_of}
use Rattle.exif_layout.specs.Measuring.{span}
use Rattle.exif_layout.specs.Slots.{known}
use Rattle.exif_writer.proofs.measure.tail_of.Goals as goal

pub value_size-requires : goal.value_size-requires
value_size-requires c = known_at c.args.fields.now c.loop-field.field-index c.field-item.result c.field-item.result c.requires c.loop-field-test.true c.field-item.is

pub returns-in_err-value_size-clause-over : goal.returns-in_err-value_size-clause-over
returns-in_err-value_size-clause-over c =
    let more = ap span (of_more c.args.fields.now c.loop-field.field-index c.field-item.result c.field-item.result c.loop-field-test.true c.field-item.is) in
    let front = span_front c.args.fields.now (c.loop-field.field-index + 1) in
    let long = at_least (value_len c.field-item.result.now.value) c.in_err-value_size.ensures in
    let one = over_alone (value_len c.field-item.result.now.value) (of_fields (take c.loop-field.field-index c.args.fields.now)) (known (entry_of c.field-item.result.now)) long (known_len c.field-item.result.now) in
    rw c.from_residual.ensures (omega arith)

pub returns-in_err-tail-clause-over : goal.returns-in_err-tail-clause-over
returns-in_err-tail-clause-over c =
    let more = ap span (of_more c.args.fields.now c.loop-field.field-index c.field-item.result c.field-item.result c.loop-field-test.true c.field-item.is) in
    let front = span_front c.args.fields.now (c.loop-field.field-index + 1) in
    let one = c.in_err-tail.ensures.over _ (known (entry_of c.field-item.result.now)) c.loop-field.invariant (known_len c.field-item.result.now ∙ sym c.in_ok-value_size.ensures.1) in
    rw c.from_residual-in_err-tail.ensures (omega arith)

pub loop-field-preserved : goal.loop-field-preserved
loop-field-preserved c =
    let more = of_more c.args.fields.now c.loop-field.field-index c.field-item.result c.field-item.result c.loop-field-test.true c.field-item.is in
    rw more (c.in_ok-tail.ensures.told _ (known (entry_of c.field-item.result.now)) c.loop-field.invariant refl (known_len c.field-item.result.now ∙ sym c.in_ok-value_size.ensures.1))
