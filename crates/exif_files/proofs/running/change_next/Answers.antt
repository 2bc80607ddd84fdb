use Rattle.exif_files.proofs.Runs.{run_weaker}
use Rattle.exif_files.proofs.running.change_next.Goals as goal

pub returns-in_err-push-2-clause-whole : goal.returns-in_err-push-2-clause-whole
returns-in_err-push-2-clause-whole g c = run_weaker c.change_one-status.ensures.changed (λ s t h. h) (λ s t h. h.whole)

pub returns-clause-whole : goal.returns-clause-whole
returns-clause-whole g c = run_weaker c.change_one-status.ensures.changed (λ s t h. h) (λ s t h. h.whole)
