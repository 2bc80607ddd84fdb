use Rattle.std.proofs.Common.{rules, ◌<◌, ◌^◌, length}
use Rattle.std.proofs.lemmas.Result.{err_from_is_err_and}
use Rattle.exif_containers.specs.Located.{located_answer, located_view}
use Rattle.exif_edit_base.specs.Causes.{of_container}
use Rattle.exif_edit_base.proofs.CauseSteps.{data_held, refused_on}
use Rattle.exif_edit.specs.InFiles.{data_patches, file_patches}
use Rattle.exif_edit.proofs.FileSteps.{file_unedited, file_unlocated, file_unserved, file_served, located_fits}
use Rattle.exif_edit.proofs.file.patches_in_memory.Goals as goal

pub returns-in_err-at : goal.returns-in_err-at
returns-in_err-at c =
    let p = err_from_is_err_and c.from_residual.result c.from_residual.ensures.1 in
    rw (p.1, p.2)
    (refused_on c.in_err-at.field-0.0 (of_container (located_answer c.args.file.now))
    (file_patches c.args.limit c.args.edit.now c.args.file.now) c.in_err-at.ensures
    (λ r h. file_unlocated c.args.limit c.args.edit.now c.args.file.now r h))

pub returns-in_err-patches : goal.returns-in_err-patches
returns-in_err-patches c =
    let p = err_from_is_err_and c.from_residual-in_err-patches.result
    c.from_residual-in_err-patches.ensures.1 in
    let at = located_view c.in_ok-at.at in
    rw (p.1, p.2)
    (refused_on c.in_err-patches.field-0.0 (data_patches c.args.limit c.args.edit.now at)
    (file_patches c.args.limit c.args.edit.now c.args.file.now) c.in_err-patches.ensures.answer
    (λ r h. file_unedited c.args.limit c.args.edit.now c.args.file.now at r c.in_ok-at.ensures h))

pub serves-requires-clause-all : goal.serves-requires-clause-all
serves-requires-clause-all c =
    let small : length c.args.file.now < 2 ^ 64 = search rules in
    let at = located_view c.in_ok-at.at in
    let held = data_held (located_answer c.args.file.now) at c.in_ok-at.ensures in
    rw (c.as_slice-4.ensures.value, c.in_ok-all.ensures, c.as_slice.ensures.value)
    (located_fits c.args.file.now at _ small held)

pub returns-then-served : goal.returns-then-served
returns-then-served c =
    let at = located_view c.in_ok-at.at in
    file_served c.args.limit c.args.edit.now c.args.file.now at c.in_ok-patches.patches.items
    c.in_ok-all.all.items c.in_ok-served.served c.in_ok-at.ensures c.in_ok-patches.ensures.answer (search rules)
    (search rules) (search rules)

pub returns : goal.returns
returns c =
    let at = located_view c.in_ok-at.at in
    file_unserved c.args.limit c.args.edit.now c.args.file.now at c.in_ok-patches.patches.items
    c.in_ok-all.all.items c.in_ok-served.served c.in_ok-at.ensures c.in_ok-patches.ensures.answer (search rules)
    (search rules) (search rules)
