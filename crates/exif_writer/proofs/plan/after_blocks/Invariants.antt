use Rattle.std.proofs.Common.{◌≡◌, ◌+◌, take}
use Rattle.exif_writer.specs.Sending.{sum_of}
use Rattle.exif_writer.proofs.plan.after_blocks.Given as goal

abbrev pub invariant-loop-block : goal.invariant-loop-block
invariant-loop-block l = l.end ≡ l.offset + sum_of (take l.block-index l.blocks)
