use Rattle.std.proofs.Common.{◌≡◌, ℕ, List, map, take}
use Rattle.std.specs.BTreeSet.{contains_text}
use Rattle.exif_files.specs.Each.{is_among}
use Rattle.exif_rename.specs.Planned.{with_paths}
use Rattle.exif_rename.specs.RenameRequests.{file_of}
use Rattle.exif_rename.proofs.plan.give_by.Given as goal

abbrev pub invariant-loop-file : goal.invariant-loop-file
invariant-loop-file l = (names : List (List ℕ)) → ((q : List ℕ) → contains_text l.initial.given q ≡ is_among q names)
    → (q : List ℕ) → contains_text l.given q ≡ is_among q (with_paths l.name (take l.file-index (map file_of l.request_files)) names)
