use Rattle.std.proofs.Common.{refl}
use Rattle.exif_files.proofs.Runs.{on_ok}
use Rattle.exif_files.proofs.Filling.{run_times_if, run_no_times}
use Rattle.exif_files.proofs.replacing.copy_times_if.Goals as goal

pub returns-then-times-clause-done : goal.returns-then-times-clause-done
returns-then-times-clause-done g c =
    on_ok _ _ c.copy_times.result c.copy_times.ensures.does.done (run_times_if c.args.times c.args.source.now c.args.name.now _ _)

pub returns-clause-done : goal.returns-clause-done
returns-clause-done g c = run_no_times c.args.times c.args.source.now c.args.name.now _ _ c.if-times.false refl
