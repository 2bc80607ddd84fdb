use Rattle.std.proofs.lemmas.Result.{err_from_is_err_and}
use Rattle.exif_edit_base.proofs.CauseSteps.{refused_on}
use Rattle.exif_grow.specs.Growing.{added_of}
use Rattle.exif_grow.specs.Setting.{grow_answer}
use Rattle.exif_grow.specs.Fields.{field_grown}
use Rattle.exif_grow.proofs.FieldSteps.{field_refused, field_set}
use Rattle.exif_grow.proofs.fields.set_field.Goals as goal

pub returns-in_err-growth : goal.returns-in_err-growth
returns-in_err-growth c =
    let p = err_from_is_err_and c.from_residual.result c.from_residual.ensures.1 in
    record {
      answer = rw (p.1, p.2)
          (refused_on c.in_err-growth.field-0.0
          (grow_answer c.args.bytes.now c.args.field.now.tag c.args.field.now.ifd_num
          c.args.field.now.value)
          (field_grown c.args.field.now c.args.bytes.now) c.in_err-growth.ensures.answer
          (λ r h. field_refused c.args.field.now c.args.bytes.now r h));
    }

pub returns : goal.returns
returns c = record {
  answer = rw (field_set c.args.field.now c.args.bytes.now (added_of c.in_ok-growth.growth)
      c.in_ok-growth.ensures.answer)
      (rw c.in_ok-data.ensures at c.make_alike.ensures.answer);
}
