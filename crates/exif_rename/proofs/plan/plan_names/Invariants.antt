use Rattle.std.proofs.Common.{◌≡◌, ℕ, List, length}
use Rattle.std.specs.BTreeSet.{contains_text}
use Rattle.exif_files.specs.Each.{is_among}
use Rattle.exif_files.specs.States.{Now}
use Rattle.exif_rename.specs.Planned.{free_in}
use Rattle.exif_rename.specs.Starts.{AreStarts}
use Rattle.exif_rename.proofs.Plans.{PlannedFrom}
use Rattle.exif_rename.proofs.plan.plan_names.Given as goal

abbrev pub invariant-loop-index : goal.invariant-loop-index
invariant-loop-index g l = record {
  same : g.F.FileSystem.states l.files ≡ g.F.FileSystem.states l.initial.files;
  count : g.F.FileSystem.failures l.files ≡ g.F.FileSystem.failures l.initial.files;
  closed : Now (g.F.FileSystem.states l.initial.files) (λ s. AreStarts (free_in s) (contains_text l.given) l.starts);
  each : length l.numbers.items ≡ l.index;
  so_far : (names : List (List ℕ)) × ((q : List ℕ) → contains_text l.given q ≡ is_among q names)
      × PlannedFrom (g.F.FileSystem.states l.initial.files) l.requests names l.numbers.items l.index;
}
