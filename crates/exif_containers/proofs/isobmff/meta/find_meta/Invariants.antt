use Rattle.std.proofs.Common.{◌≡◌, ◌≤◌, ◌-◌, ◌^◌, Some}
use Rattle.std.specs.Io.KnownBytes.{Keeps}
use Rattle.exif_base.specs.Told.{left_behind}
use Rattle.exif_containers.proofs.IsobmffMeta.{WalksTo}
use Rattle.exif_containers.proofs.isobmff.meta.find_meta.Given as goal

abbrev pub invariant-loop-n : goal.invariant-loop-n
invariant-loop-n g l = record {
  in_range : l.origin ≤ l.at;
  walked : WalksTo l.seen (l.at - l.origin) (left_behind (Some l.origin) (g.R.Source.stream l.fn.source)) (left_behind (Some l.at) (g.R.Source.stream l.fn.source));
  kept : Keeps (g.R.Source.left l.fn.source) (g.R.Source.left l.source);
  stream : g.R.Source.stream l.source ≡ g.R.Source.stream l.fn.source;
  count : g.R.Source.failures l.source ≡ g.R.Source.failures l.fn.source;
  same : g.R.Source.through l.source ≡ g.R.Source.through l.fn.source;
}

abbrev pub decreases-loop-n : goal.decreases-loop-n
decreases-loop-n g l = 2 ^ 64 - l.at
