use Rattle.std.proofs.Common.{rules, ◌+◌, ◌-◌, length, take, drop}
use Rattle.exif_files.specs.Steps.{Appends}
use Rattle.exif_files.proofs.Runs.{run_step, run_stay, run_weaker, at_err}
use Rattle.exif_files.proofs.Filling.{elsewhere_then, appended_more, next_bytes}
use Rattle.exif_files.proofs.temporary.append_all.Goals as goal

pub returns-in_err-at-clause-failed : goal.returns-in_err-at-clause-failed
returns-in_err-at-clause-failed g c =
    at_err _ c.from_residual.result (run_weaker (run_stay c.loop-at.invariant.appended c.in_err-at.ensures.failed) (λ s t h. h) (λ s t h. h.others))

pub loop-at-preserved : goal.loop-at-preserved
loop-at-preserved g c =
    let name = c.args.name.now in
    let bytes = c.args.bytes.now in
    let at = c.loop-at.at in
    let front = take c.in_ok-at.field-0 (take (length bytes - at) (drop at bytes)) in
    record {
      in_range = search rules;
      appended = run_step (Appends name front) c.loop-at.invariant.appended c.in_ok-at.ensures.done (λ s t h. h)
          (λ s t u x y. elsewhere_then name s t u x.others y.others)
          (λ s t u x y. appended_more name (take at bytes) front (take (at + c.in_ok-at.field-0) bytes) s t u (next_bytes at c.in_ok-at.field-0 bytes c.in_ok-at.ensures.bound) x y);
      count = search rules;
    }
