use Rattle.std.proofs.Common.{refl}
use Rattle.std.proofs.lemmas.Result.{err_from_is_err_and}
use Rattle.exif_containers.specs.Located.{located_answer, located_view}
use Rattle.exif_edit_base.specs.Causes.{of_container}
use Rattle.exif_edit_base.proofs.CauseSteps.{data_held, refused_on}
use Rattle.exif_edit.specs.InFiles.{data_patches, edited_file}
use Rattle.exif_edit.proofs.FileSteps.{edited_placed, edited_refused, file_unedited, file_unlocated}
use Rattle.exif_edit.proofs.file.apply_in_container.Goals as goal

pub returns-in_err-at : goal.returns-in_err-at
returns-in_err-at c =
    let p = err_from_is_err_and c.from_residual.result c.from_residual.ensures.1 in
    rw (p.1, p.2) (
      refl,
      refused_on c.in_err-at.field-0.0 (of_container (located_answer c.args.file.now))
          (edited_file c.args.limit c.args.edit.now c.args.file.now) c.in_err-at.ensures
          (λ r h. edited_refused c.args.limit c.args.edit.now c.args.file.now r
          (file_unlocated c.args.limit c.args.edit.now c.args.file.now r h)),
    )

pub returns-in_err-patches : goal.returns-in_err-patches
returns-in_err-patches c =
    let p = err_from_is_err_and c.from_residual-in_err-patches.result
    c.from_residual-in_err-patches.ensures.1 in
    let at = located_view c.in_ok-at.at in
    rw (p.1, p.2) (
      refl,
      refused_on c.in_err-patches.field-0.0 (data_patches c.args.limit c.args.edit.now at)
          (edited_file c.args.limit c.args.edit.now c.args.file.now) c.in_err-patches.ensures.answer
          (λ r h. edited_refused c.args.limit c.args.edit.now c.args.file.now r
          (file_unedited c.args.limit c.args.edit.now c.args.file.now at r c.in_ok-at.ensures h)),
    )

pub put_in_file-requires-clause-located : goal.put_in_file-requires-clause-located
put_in_file-requires-clause-located c =
    data_held (located_answer c.args.file.now) (located_view c.in_ok-at.at) c.in_ok-at.ensures

pub returns : goal.returns
returns c =
    edited_placed c.args.limit c.args.edit.now c.args.file.now c.put_in_file.new.file
    (located_view c.in_ok-at.at) c.in_ok-patches.patches.items c.put_in_file.result
    c.in_ok-at.ensures c.in_ok-patches.ensures.answer
    (rw c.as_slice.ensures.value at c.put_in_file.ensures)
