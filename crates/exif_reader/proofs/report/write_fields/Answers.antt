use Rattle.std.proofs.Common.{[], refl, ◌∙◌}
use Rattle.std.proofs.lemmas.Result.{err_from_is_err_and}
use Rattle.exif_reader.specs.Lines.{field_line}
use Rattle.exif_reader.proofs.ReportingLines.{sends_none, sends_failed, sends_whole, held_member, held_memory, held_stop, held_last, writes_sent}
use Rattle.exif_reader.proofs.report.write_fields.Goals as goal

pub loop-field-init : goal.loop-field-init
loop-field-init g c = ([], sends_none, c.in_ok-lines.ensures.bytes)

pub loop-field-preserved : goal.loop-field-preserved
loop-field-preserved g c =
    let sends = c.in_ok-send_long.ensures.sends in
    held_member (field_line c.args.exif.now.fields) c.args.fields.now c.loop-field.field-index c.field-item.result c.field-item.result _ _ _ _
    c.loop-field-test.true c.field-item.is c.loop-field.invariant c.in_ok-push_field_line.ensures.text sends.1 sends.2

pub returns-in_err-push_field_line : goal.returns-in_err-push_field_line
returns-in_err-push_field_line g c =
    let p = err_from_is_err_and c.from_residual-in_err-push_field_line.result c.from_residual-in_err-push_field_line.ensures.1 in
    record { writes = rw p.1 (held_memory (field_line c.args.exif.now.fields) c.args.fields.now c.loop-field.field-index _ c.loop-field.invariant (p.2 ∙ c.in_err-push_field_line.ensures.memory)) }

pub returns-in_err-send_long : goal.returns-in_err-send_long
returns-in_err-send_long g c =
    let p = err_from_is_err_and c.from_residual-in_err-send_long.result c.from_residual-in_err-send_long.ensures.1 in
    let sends = c.in_err-send_long.ensures.sends in
    record {
      writes = rw (p.1, p.2)
          (writes_sent (held_stop (field_line c.args.exif.now.fields) c.args.fields.now c.loop-field.field-index c.field-item.result c.field-item.result _ _ _
          c.loop-field-test.true c.field-item.is c.loop-field.invariant c.in_ok-push_field_line.ensures.text sends.1 sends.3 refl) refl tt);
    }

pub returns-in_err-send_all : goal.returns-in_err-send_all
returns-in_err-send_all g c =
    let p = err_from_is_err_and c.from_residual-in_err-send_all.result c.from_residual-in_err-send_all.ensures.1 in
    record {
      writes = rw (p.1, p.2)
          (writes_sent (held_last (field_line c.args.exif.now.fields) c.args.fields.now c.loop-field.field-index _ c.loop-field-test.false c.loop-field.invariant
          (sends_failed (rw c.as_bytes.ensures.value at c.in_err-send_all.ensures.sends) refl)) refl tt);
    }

pub returns : goal.returns
returns g c = record {
  writes = writes_sent (held_last (field_line c.args.exif.now.fields) c.args.fields.now c.loop-field.field-index _ c.loop-field-test.false c.loop-field.invariant
      (sends_whole (rw c.as_bytes.ensures.value at c.in_ok-send_all.ensures.sends))) refl tt;
}
