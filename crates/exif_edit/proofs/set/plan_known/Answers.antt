use Rattle.std.proofs.Common.{Ok, ap, refl, sym, ◌∙◌}
use Rattle.std.proofs.lemmas.Result.{err_from_is_err_and}
use Rattle.exif_edit_base.specs.EntryLimit.{limited}
use Rattle.exif_edit_base.specs.Readings.{read_of}
use Rattle.exif_edit_base.specs.Finding.{find_answer}
use Rattle.exif_edit_base.proofs.CauseSteps.{refused_on}
use Rattle.exif_edit_base.proofs.LimitedSteps.{limited_is, limited_ok, limited_on}
use Rattle.exif_edit_base.specs.Plans.{planned}
use Rattle.exif_edit.specs.Setting.{checked_patches, value_answer}
use Rattle.exif_edit.proofs.AloneSound.{header_found, set_alone}
use Rattle.exif_edit_base.proofs.PlanSteps.{any_planned}
use Rattle.exif_edit.proofs.SetSteps.{set_find, set_edit, set_wanted}
use Rattle.exif_edit.proofs.set.plan_known.Goals as goal

pub returns-in_err-found-clause-answer : goal.returns-in_err-found-clause-answer
returns-in_err-found-clause-answer c =
    let p = err_from_is_err_and c.from_residual.result c.from_residual.ensures.1 in
    rw (p.1, p.2)
    (limited_on c.args.limit c.args.bytes.now c.in_err-found.field-0.0
    (find_answer c.args.bytes.now c.args.tag c.args.ifd_num)
    (checked_patches c.args.bytes.now c.args.tag c.args.ifd_num c.args.value.now)
    c.in_err-found.ensures.answer
    (λ r h. set_find c.args.bytes.now c.args.tag c.args.ifd_num c.args.value.now r h))

pub returns-in_err-edit-clause-answer : goal.returns-in_err-edit-clause-answer
returns-in_err-edit-clause-answer c =
    let found = limited_ok c.args.limit c.args.bytes.now
    (find_answer c.args.bytes.now c.args.tag c.args.ifd_num)
    (read_of c.in_ok-found.found.parsed, c.in_ok-found.found.entry)
    c.in_ok-found.ensures.answer in
    let p = err_from_is_err_and c.from_residual-in_err-edit.result
    c.from_residual-in_err-edit.ensures.1 in
    rw (p.1, p.2)
    (refused_on c.in_err-edit.field-0.0
    (value_answer c.order_named-order.result c.args.value.now c.in_ok-found.found.entry
    c.args.bytes.now)
    (limited c.args.limit c.args.bytes.now
    (checked_patches c.args.bytes.now c.args.tag c.args.ifd_num c.args.value.now))
    c.in_err-edit.ensures.answer
    (λ r h. limited_is c.args.limit c.args.bytes.now
    (checked_patches c.args.bytes.now c.args.tag c.args.ifd_num c.args.value.now) found.0
    ∙ set_edit c.args.bytes.now c.args.tag c.args.ifd_num c.args.value.now
    (read_of c.in_ok-found.found.parsed) c.in_ok-found.found.entry c.order_named-order.result r
    found.1 c.order_named-order.ensures h))

pub is_alone-requires-clause-header : goal.is_alone-requires-clause-header
is_alone-requires-clause-header c =
    let found = limited_ok c.args.limit c.args.bytes.now
    (find_answer c.args.bytes.now c.args.tag c.args.ifd_num)
    (read_of c.in_ok-found.found.parsed, c.in_ok-found.found.entry)
    c.in_ok-found.ensures.answer in
    header_found c.args.bytes.now c.args.tag c.args.ifd_num (read_of c.in_ok-found.found.parsed)
    c.in_ok-found.found.entry found.1
    ∙ ap (λ o. Ok o) (sym c.order_named-order.ensures)

pub returns-then-is_alone-clause-answer : goal.returns-then-is_alone-clause-answer
returns-then-is_alone-clause-answer c =
    let found = limited_ok c.args.limit c.args.bytes.now
    (find_answer c.args.bytes.now c.args.tag c.args.ifd_num)
    (read_of c.in_ok-found.found.parsed, c.in_ok-found.found.entry)
    c.in_ok-found.ensures.answer in
    let yes = c.if-is_alone.true in
    any_planned c.args.bytes.now _ refl
    ∙ (sym (set_alone c.args.bytes.now c.args.tag c.args.ifd_num c.args.value.now
    (read_of c.in_ok-found.found.parsed) c.in_ok-found.found.entry c.order_named-order.result
    c.in_ok-edit.edit.patches.items found.1 c.order_named-order.ensures
    c.in_ok-edit.ensures.answer c.requires.movable c.requires.known
    (c.is_alone.ensures.childless yes) (c.is_alone.ensures.ranged yes)
    (c.is_alone.ensures.plain yes) (c.is_alone.ensures.alone yes))
    ∙ sym (limited_is c.args.limit c.args.bytes.now
    (checked_patches c.args.bytes.now c.args.tag c.args.ifd_num c.args.value.now) found.0))

pub returns-clause-answer : goal.returns-clause-answer
unfolding planned
returns-clause-answer c =
    let found = limited_ok c.args.limit c.args.bytes.now
    (find_answer c.args.bytes.now c.args.tag c.args.ifd_num)
    (read_of c.in_ok-found.found.parsed, c.in_ok-found.found.entry)
    c.in_ok-found.ensures.answer in
    set_wanted c.args.bytes.now c.in_ok-edit.edit.patches.items c.args.tag
    c.args.ifd_num c.args.value.now c.in_ok-moved.moved (read_of c.in_ok-found.found.parsed)
    c.in_ok-found.found.entry c.in_ok-edit.edit.offset c.set_field.new.fields.items
    c.order_named-order.result
    found.1 c.order_named-order.ensures c.in_ok-edit.ensures.answer
    c.set_field.ensures c.in_ok-moved.ensures.answer c.in_ok-edit.ensures.offset
    ∙ sym (limited_is c.args.limit c.args.bytes.now
    (checked_patches c.args.bytes.now c.args.tag c.args.ifd_num c.args.value.now) found.0)
