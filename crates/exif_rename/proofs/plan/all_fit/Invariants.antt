use Rattle.std.proofs.Common.{◌≡◌, ℕ, List, map, take}
use Rattle.std.specs.Prelude.{◌||◌}
use Rattle.std.specs.BTreeSet.{contains_text}
use Rattle.std.specs.String.{string_bytes}
use Rattle.exif_files.specs.Each.{is_among}
use Rattle.exif_rename.specs.Planned.{with_paths}
use Rattle.exif_rename.specs.RenameRequests.{file_of}
use Rattle.exif_rename.proofs.Plans.{FitsFrom}
use Rattle.exif_rename.proofs.plan.all_fit.Given as goal

abbrev pub invariant-loop-file : goal.invariant-loop-file
invariant-loop-file g l = record {
  same : g.F.FileSystem.states l.files ≡ g.F.FileSystem.states l.initial.files;
  count : g.F.FileSystem.failures l.files ≡ g.F.FileSystem.failures l.initial.files;
  among : (names : List (List ℕ)) (q : List ℕ) → is_among q (with_paths l.name (take l.file-index (map file_of l.request_files)) names)
      ≡ (is_among q names || is_among q (map string_bytes l.paths.items));
  rest : (names : List (List ℕ)) → ((q : List ℕ) → contains_text l.given q ≡ is_among q names)
      → FitsFrom (g.F.FileSystem.states l.initial.files) names l.name l.request_files l.file-index;
}
