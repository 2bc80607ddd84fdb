use Rattle.std.specs.Prelude.{length}
use Rattle.exif_files.specs.Names.{backup_if}
use Rattle.exif_files.proofs.Outcomes.{run_outcome}
use Rattle.exif_files.proofs.running.change_one.Goals as goal

pub returns-clause-changed : goal.returns-clause-changed
returns-clause-changed g c =
    run_outcome (g.E.Edit.answer c.args.edit.now) c.args.name.now (backup_if c.args.keeping.backup c.args.name.now) c.args.keeping.times _
    (g.E.Edit.undone c.args.edit.now) (λ report. length report.left.items)
    c.change-changed.result c.status_of-status.result _ _ _ _ c.change-changed.ensures.done c.change-changed.ensures.failed c.status_of-status.ensures.err
    c.status_of-status.ensures.ok c.change-changed.ensures.left
