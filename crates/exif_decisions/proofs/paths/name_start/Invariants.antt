use Rattle.std.proofs.Common.{◌≡◌, ◌<◌, ◌≤◌, ◌-◌, length, drop}
use Rattle.std.specs.Prelude.{slice_index}
use Rattle.exif_decisions.specs.Paths.{name_after, name_of}
use Rattle.exif_decisions.proofs.paths.name_start.Given as goal

abbrev pub invariant-loop-index : goal.invariant-loop-index
invariant-loop-index l = record {
  within : l.start ≤ length l.path;
  slash : 0 < l.start → slice_index l.path (l.start - 1) ≡ 47;
  same : name_after (drop l.start l.path) (drop l.index l.path) ≡ name_of l.path;
}
