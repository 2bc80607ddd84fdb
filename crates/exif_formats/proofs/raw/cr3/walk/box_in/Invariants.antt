use Rattle.std.proofs.Common.{◌≡◌, ◌-◌, ◌^◌}
use Rattle.exif_formats.proofs.Cr3Loop.{Walked}
use Rattle.exif_formats.proofs.raw.cr3.walk.box_in.Given as goal

abbrev pub invariant-loop : goal.invariant-loop
invariant-loop g l = record {
  walked : Walked l.fn.name l.fn.usertype (2 ^ 64 - 1) l.counter (g.R.Source.left l.fn.source) (g.R.Source.left l.source);
  count : g.R.Source.failures l.source ≡ g.R.Source.failures l.fn.source;
  same : g.R.Source.through l.source ≡ g.R.Source.through l.fn.source;
}
