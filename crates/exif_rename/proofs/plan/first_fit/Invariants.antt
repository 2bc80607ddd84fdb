use Rattle.std.proofs.Common.{◌≡◌, ℕ, List}
use Rattle.std.specs.BTreeSet.{contains_text}
use Rattle.exif_files.specs.Each.{is_among}
use Rattle.exif_rename.proofs.Searches.{FitFrom}
use Rattle.exif_rename.proofs.plan.first_fit.Given as goal

abbrev pub invariant-loop-number : goal.invariant-loop-number
invariant-loop-number g l = record {
  same : g.F.FileSystem.states l.files ≡ g.F.FileSystem.states l.fn.files;
  count : g.F.FileSystem.failures l.files ≡ g.F.FileSystem.failures l.fn.files;
  rest : (names : List (List ℕ)) → ((q : List ℕ) → contains_text l.given q ≡ is_among q names)
      → FitFrom (g.F.FileSystem.states l.fn.files) names (contains_text l.given) l.request l.start l.number;
}
