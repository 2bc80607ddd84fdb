use Rattle.std.proofs.Common.{◌≡◌, ◌<◌, length, drop}
use Rattle.std.specs.Prelude.{IfSome, slice_index}
use Rattle.exif_files.specs.Folders.{last_slash, slash_from}
use Rattle.exif_files.proofs.folder.last_slash.Given as goal

abbrev pub invariant-loop-index : goal.invariant-loop-index
invariant-loop-index l = record {
  within : IfSome l.last (λ at. at < length l.path);
  slash : IfSome l.last (λ at. slice_index l.path at ≡ 47);
  same : slash_from l.last l.index (drop l.index l.path) ≡ last_slash l.path;
}
