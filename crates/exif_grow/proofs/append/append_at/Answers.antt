use Rattle.std.proofs.Common.{ℕ, List, length, sym, ap, ◌∙◌}
use Rattle.exif_layout.specs.Offsets.{even}
use Rattle.exif_edit.specs.Setting.{set_offset}
use Rattle.exif_grow.specs.Growing.{added_of}
use Rattle.std.proofs.lemmas.Result.{err_from_is_err_and}
use Rattle.exif_edit_base.specs.Readings.{read_of}
use Rattle.exif_edit_base.proofs.CauseSteps.{refused_on}
use Rattle.exif_grow.specs.Appending.{append_fault, appended_at}
use Rattle.exif_grow.proofs.AppendSteps.{append_outside, append_passed, append_refused}
use Rattle.exif_grow.proofs.append.append_at.Goals as goal

pub returns-then-len-entry : goal.returns-then-len-entry
returns-then-len-entry c = record {
  answer = append_outside c.args.tag c.args.ifd_num c.args.value.now c.args.found.entry
      c.args.bytes.now (read_of c.args.found.parsed) c.if-len-entry.true;
}

pub returns-in_err-encoded : goal.returns-in_err-encoded
returns-in_err-encoded c =
    let p = err_from_is_err_and c.from_residual.result c.from_residual.ensures.1 in
    record {
      answer = rw (p.1, p.2)
          (refused_on c.in_err-encoded.field-0.0
          (append_fault c.order_named-order.result c.args.value.now c.args.found.entry
          c.value_space-span.result (length c.args.bytes.now))
          (appended_at c.args.tag c.args.ifd_num c.args.value.now c.args.found.entry
          c.args.bytes.now (read_of c.args.found.parsed))
          c.in_err-encoded.ensures.answer
          (λ r h. append_refused c.args.tag c.args.ifd_num c.args.value.now c.args.found.entry
          c.args.bytes.now (read_of c.args.found.parsed) c.order_named-order.result
          c.value_space-span.result r c.order_named-order.ensures c.value_space-span.ensures.value
          h));
    }

pub returns : goal.returns
returns c = record {
  answer = rw (sym (append_passed c.args.tag c.args.ifd_num c.args.value.now c.in_ok-moved.moved
      c.args.found.entry c.args.bytes.now (read_of c.args.found.parsed)
      c.order_named-order.result c.value_space-span.result c.offset_of.result
      c.set_field.new.fields.items (added_of c.in_ok-cleared.cleared)
      (added_of c.in_ok-kept.kept) c.order_named-order.ensures c.value_space-span.ensures.value
      c.in_ok-encoded.ensures.answer c.in_ok-cleared.ensures.added c.in_ok-kept.ensures.added
      c.set_field.ensures c.in_ok-moved.ensures.answer
      (c.offset_of.ensures ∙ ap (λ (t : List ℕ). set_offset (even (length c.args.bytes.now))
      c.args.found.entry t) (c.as_slice.ensures.value ∙ c.in_ok-encoded.ensures.bytes))))
      c.first_read.ensures.answer;
}
