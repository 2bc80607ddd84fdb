use Rattle.std.proofs.Common.{◌≡◌, ◌≤◌, ◌<◌, length, drop}
use Rattle.std.specs.Prelude.{slice_index}
use Rattle.exif_rename.specs.Grouped.{ending_after, ending_of}
use Rattle.exif_rename.proofs.grouping.ending_start.Given as goal

abbrev pub invariant-loop-index : goal.invariant-loop-index
invariant-loop-index l = record {
  within : l.start ≤ length l.path;
  dot : l.start < length l.path → slice_index l.path l.start ≡ 46;
  same : ending_after l.begun (drop l.start l.path) (drop l.index l.path) ≡ ending_of l.path;
}
