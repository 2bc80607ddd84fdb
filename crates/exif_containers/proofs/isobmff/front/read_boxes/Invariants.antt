use Rattle.std.proofs.Common.{◌≡◌, ◌-◌, ◌^◌, vec_len}
use Rattle.exif_containers.specs.HeifSteps.{GoesOn}
use Rattle.exif_containers.proofs.isobmff.front.read_boxes.Given as goal

abbrev pub invariant-loop-len : goal.invariant-loop-len
invariant-loop-len g l = record {
  stream : g.R.Source.stream l.source ≡ g.R.Source.stream l.fn.source;
  read : GoesOn (g.R.Source.left l.fn.source) (g.R.Source.left l.source) l.fn.bytes.items l.bytes.items;
  count : g.R.Source.failures l.source ≡ g.R.Source.failures l.fn.source;
  same : g.R.Source.through l.source ≡ g.R.Source.through l.fn.source;
}

abbrev pub decreases-loop-len : goal.decreases-loop-len
decreases-loop-len g l = 2 ^ 63 - vec_len l.bytes
