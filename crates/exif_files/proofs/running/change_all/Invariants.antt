use Rattle.std.proofs.Common.{◌≡◌, ℕ, List, [], map, take}
use Rattle.std.specs.String.{string_bytes}
use Rattle.std.specs.BTreeSet.{contains_text}
use Rattle.exif_files.specs.Each.{is_among}
use Rattle.exif_files.proofs.Many.{SoFar, gathered}
use Rattle.exif_files.proofs.running.change_all.Given as goal

abbrev pub invariant-loop-name : goal.invariant-loop-name
invariant-loop-name g l = record {
  seen : (q : List ℕ) → contains_text l.seen q ≡ is_among q (gathered [] (take l.name-index (map string_bytes l.names)));
  so_far : SoFar (g.E.Edit.answer l.edit) l.keeping.backup l.keeping.times (g.E.Edit.undone l.edit) (map string_bytes l.names) (take l.name-index (map string_bytes l.names)) l.results.items
      (g.F.FileSystem.states l.initial.files) (g.F.FileSystem.states l.files);
  heard : g.P.Reporter.heard l.reporter ≡ l.name-index;
}
