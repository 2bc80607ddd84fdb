use Rattle.std.proofs.Common.{length}
use Rattle.exif_blocks.specs.Blocks.{blocks_put}
use Rattle.exif_blocks.proofs.BlockSteps.{Runs}
use Rattle.exif_blocks.proofs.walk.blocks_put.Given as goal

-- what is left becomes what all becomes
abbrev pub invariant-loop-block : goal.invariant-loop-block
invariant-loop-block l =
    Runs l.block l.place (blocks_put (length l.bytes) l.block l.place l.fn.start l.new l.bytes l.fn.front.items) l.state l.left l.rest l.out.items

abbrev pub decreases-loop-block : goal.decreases-loop-block
decreases-loop-block l = length l.rest
