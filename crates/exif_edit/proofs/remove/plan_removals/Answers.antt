use Rattle.std.proofs.Common.{sym, ◌∙◌}
use Rattle.std.proofs.lemmas.Result.{err_from_is_err_and}
use Rattle.exif_edit_base.specs.Causes.{of_data}
use Rattle.exif_edit_base.specs.Readings.{read_of, reading}
use Rattle.exif_edit_base.specs.Plans.{planned}
use Rattle.exif_edit_base.proofs.LimitedSteps.{limited_is, limited_on, limited_read}
use Rattle.exif_edit.specs.Removing.{named_removals}
use Rattle.exif_edit.proofs.RemoveSteps.{as_many, none_named, remove_refused, remove_wanted}
use Rattle.exif_edit.proofs.RemoveSound.{removals_fit}
use Rattle.exif_edit.proofs.remove.plan_removals.Goals as goal

pub returns-in_err-parsed-clause-answer : goal.returns-in_err-parsed-clause-answer
returns-in_err-parsed-clause-answer c =
    let p = err_from_is_err_and c.from_residual.result c.from_residual.ensures.1 in
    rw (p.1, p.2) (limited_on c.args.limit c.args.bytes.now c.in_err-parsed.field-0.0
    (of_data (reading c.args.bytes.now))
    (named_removals c.args.bytes.now c.args.tag c.args.ifd_num) c.in_err-parsed.ensures.reads
    (λ r h. remove_refused c.args.bytes.now c.args.tag c.args.ifd_num r h))

pub directories_with-requires : goal.directories_with-requires
directories_with-requires c =
    let p = limited_read c.args.limit c.args.bytes.now
    (read_of c.in_ok-parsed.field-0.parsed) c.in_ok-parsed.ensures.reads in
    rw (c.as_slice.ensures.value, c.entries.ensures)
    (as_many c.args.bytes.now (read_of c.in_ok-parsed.field-0.parsed) c.in_ok-parsed.field-0.walk.entries
    p.1 c.in_ok-parsed.ensures.offsets.entries)

pub returns-then-is_empty-clause-answer : goal.returns-then-is_empty-clause-answer
returns-then-is_empty-clause-answer c =
    let p = limited_read c.args.limit c.args.bytes.now
    (read_of c.in_ok-parsed.field-0.parsed) c.in_ok-parsed.ensures.reads in
    limited_is c.args.limit c.args.bytes.now
    (named_removals c.args.bytes.now c.args.tag c.args.ifd_num) p.0
    ∙ none_named c.args.bytes.now c.args.tag c.args.ifd_num (read_of c.in_ok-parsed.field-0.parsed)
    c.in_ok-parsed.field-0.walk.entries c.in_ok-offsets.offsets.items p.1
    c.in_ok-parsed.ensures.offsets.entries
    (rw (c.as_slice.ensures.value, c.entries.ensures) at c.in_ok-offsets.ensures)
    (rw c.as_slice-offsets.ensures.value at (sym c.is_empty.ensures ∙ c.if-is_empty.true))

pub returns-clause-answer : goal.returns-clause-answer
unfolding planned
returns-clause-answer c =
    let p = limited_read c.args.limit c.args.bytes.now
    (read_of c.in_ok-parsed.field-0.parsed) c.in_ok-parsed.ensures.reads in
    remove_wanted c.args.bytes.now c.args.tag c.args.ifd_num
    (read_of c.in_ok-parsed.field-0.parsed) c.in_ok-parsed.field-0.walk.entries c.in_ok-offsets.offsets.items
    c.in_ok-patches.patches.items c.drop_named.new.fields.items c.order_named-order.result
    p.1 c.in_ok-parsed.ensures.offsets.entries
    (rw (c.as_slice.ensures.value, c.entries.ensures) at c.in_ok-offsets.ensures)
    c.order_named-order.ensures (rw c.as_slice-offsets.ensures.value at c.in_ok-patches.ensures)
    c.drop_named.ensures
    (rw c.as_slice-offsets.ensures.value at (sym c.is_empty.ensures ∙ c.if-is_empty.false))
    ∙ sym (limited_is c.args.limit c.args.bytes.now
    (named_removals c.args.bytes.now c.args.tag c.args.ifd_num) p.0)

pub returns-clause-within : goal.returns-clause-within
returns-clause-within c =
    rw c.in_ok-patches.ensures
    (removals_fit c.order_named-order.result c.args.bytes.now c.args.tag.1
    c.as_slice-offsets.result.now)
