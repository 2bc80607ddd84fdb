use Rattle.exif_files.proofs.Filling.{run_owner}
use Rattle.exif_files.proofs.replacing.try_copy_owner.Goals as goal

pub returns-clause-done : goal.returns-clause-done
returns-clause-done g c = run_owner c.copy_owner.result c.args.source.now c.args.name.now _ _ _ _ c.copy_owner.ensures.does
