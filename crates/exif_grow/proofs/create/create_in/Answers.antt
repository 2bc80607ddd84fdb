use Rattle.std.proofs.Common.{length, sym}
use Rattle.std.proofs.lemmas.Result.{err_from_is_err_and}
use Rattle.exif_edit_base.specs.Readings.{read_of}
use Rattle.exif_edit_base.proofs.CauseSteps.{refused_on}
use Rattle.exif_grow.specs.Growing.{added_of}
use Rattle.exif_grow.specs.Creating.{created_in}
use Rattle.exif_grow.specs.Inserting.{directory_fault}
use Rattle.exif_grow.proofs.CreateSteps.{create_passed, create_refused}
use Rattle.exif_grow.proofs.create.create_in.Goals as goal

pub returns-in_err-encoded : goal.returns-in_err-encoded
returns-in_err-encoded c =
    let p = err_from_is_err_and c.from_residual.result c.from_residual.ensures.1 in
    record {
      answer = rw (p.1, p.2)
          (refused_on c.in_err-encoded.field-0.0
          (directory_fault c.order_named-order.result c.args.value.now c.args.directory
          c.child_value_offset-offset.result (length c.args.bytes.now))
          (created_in c.args.tag c.args.ifd_num c.args.value.now c.args.bytes.now
          (read_of c.args.parsed) c.args.pointer c.args.directory)
          c.in_err-encoded.ensures.answer
          (λ r h. create_refused c.args.tag c.args.ifd_num c.args.value.now c.args.bytes.now
          (read_of c.args.parsed) c.args.pointer c.args.directory c.order_named-order.result
          c.child_value_offset-offset.result r c.order_named-order.ensures
          c.child_value_offset-offset.ensures h));
    }

pub returns : goal.returns
returns c = record {
  answer = rw (sym (create_passed c.args.tag c.args.ifd_num c.args.value.now c.args.bytes.now
      (read_of c.args.parsed) c.args.pointer c.args.directory c.order_named-order.result
      c.child_value_offset-offset.result c.in_ok-field.field (read_of c.without_offsets-wanted.result)
      (added_of c.in_ok-cleared.cleared) (added_of c.in_ok-kept.kept) c.order_named-order.ensures
      c.child_value_offset-offset.ensures c.in_ok-encoded.ensures.answer c.in_ok-cleared.ensures.added c.in_ok-kept.ensures.added
      c.in_ok-field.ensures.field c.without_offsets-wanted.ensures))
      c.first_with.ensures.answer;
}
