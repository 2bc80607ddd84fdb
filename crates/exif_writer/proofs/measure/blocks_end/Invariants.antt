use Rattle.std.proofs.Common.{◌≡◌, ◌+◌, ◌<◌, ◌^◌, take}
use Rattle.exif_writer.specs.Sending.{sum_of}
use Rattle.exif_writer.proofs.measure.blocks_end.Given as goal

abbrev pub invariant-loop-block : goal.invariant-loop-block
invariant-loop-block l = record {
  sum : l.end ≡ l.offset + sum_of (take l.block-index l.blocks);
  fits : l.end < 2 ^ 32;
}
