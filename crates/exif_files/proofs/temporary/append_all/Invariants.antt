use Rattle.std.proofs.Common.{◌≡◌, ◌≤◌, ◌-◌, length, take}
use Rattle.exif_files.specs.States.{Run, Elsewhere}
use Rattle.exif_files.specs.Parts.{IsAppended}
use Rattle.exif_files.proofs.temporary.append_all.Given as goal

abbrev pub invariant-loop-at : goal.invariant-loop-at
invariant-loop-at g l = record {
  in_range : l.at ≤ length l.bytes;
  appended : Run (Elsewhere l.name) (IsAppended l.name (take l.at l.bytes)) (g.F.FileSystem.states l.initial.files) (g.F.FileSystem.states l.files);
  count : g.F.FileSystem.failures l.files ≡ g.F.FileSystem.failures l.initial.files;
}

abbrev pub decreases-loop-at : goal.decreases-loop-at
decreases-loop-at g l = length l.initial.bytes - l.at
