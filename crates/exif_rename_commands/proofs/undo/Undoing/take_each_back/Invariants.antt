use Rattle.std.proofs.Common.{◌≡◌, List, length}
use Rattle.std.specs.Prelude.{IsTrue}
use Rattle.exif_decisions.specs.declared.outcome.Outcome.{Outcome}
use Rattle.exif_inputs.specs.Pending.{with_counts}
use Rattle.exif_rename_commands.specs.Counting.{counted_all}
use Rattle.exif_rename_commands.proofs.undo.Undoing.take_each_back.Given as goal

-- each step so far is counted by its outcome
abbrev pub invariant-loop-step : goal.invariant-loop-step
invariant-loop-step g l = record {
  counted : (outcomes : List Outcome) × (length outcomes ≡ length l.yielded)
      × (l.session.pending ≡ with_counts (counted_all outcomes l.initial.session.pending.counts) l.initial.session.pending);
  same : l.self.dry_run ≡ l.initial.self.dry_run;
  folders : IsTrue l.initial.self.dry_run → l.self.folders ≡ l.initial.self.folders;
}
