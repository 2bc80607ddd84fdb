use Rattle.std.proofs.Common.{◌∙◌, ap, true}
use Rattle.exif_files.specs.Steps.{Creates, count_after}
use Rattle.exif_files.proofs.Moving.{moves_if_free}
use Rattle.exif_files.proofs.NameSteps.{run_replaced_holder, run_holder_undone}
use Rattle.exif_files.proofs.taking.move_onto_holder.Goals as goal

pub returns-in-Ok-clause-done : goal.returns-in-Ok-clause-done
returns-in-Ok-clause-done g c =
    run_replaced_holder c.args.source.now c.args.name.now 384 c.requires _ _ _
    (moves_if_free c.args.name.now (Creates c.args.name.now 384) _ _ c.in-Ok-true.field-0 c.in-Ok-true.field-0-test c.in-Ok-true.ensures.does.done) c.in-Ok.ensures.does.done

pub returns-in-Err-rename-clause-failed : goal.returns-in-Err-rename-clause-failed
returns-in-Err-rename-clause-failed g c =
    run_holder_undone c.args.source.now c.args.name.now 384 c.remove.result _ _ _ _ _ _ _
    (moves_if_free c.args.name.now (Creates c.args.name.now 384) _ _ c.in-Ok-true.field-0 c.in-Ok-true.field-0-test c.in-Ok-true.ensures.does.done)
    c.in-Err-rename.ensures.does.failed (c.in-Err-rename.ensures.does.count ∙ ap (count_after true) c.in-Ok-true.ensures.does.count) c.remove.ensures.does
