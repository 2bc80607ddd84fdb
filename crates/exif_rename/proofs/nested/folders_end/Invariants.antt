use Rattle.std.proofs.Common.{◌≡◌, ◌<◌, length, drop}
use Rattle.std.specs.Prelude.{slice_index}
use Rattle.exif_rename.specs.Nested.{slash_after}
use Rattle.exif_rename.proofs.nested.folders_end.Given as goal

abbrev pub invariant-loop-index : goal.invariant-loop-index
invariant-loop-index l = record {
  slash : 0 < l.found → slice_index l.name l.found ≡ 47;
  inside : 0 < l.found → l.found < length l.name;
  same : slash_after l.found l.index (drop l.index l.name) ≡ slash_after 0 0 l.name;
}
