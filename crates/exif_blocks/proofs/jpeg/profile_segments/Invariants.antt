use Rattle.std.proofs.Common.{◌≡◌, ◌+◌, ◌-◌, []}
use Rattle.exif_blocks.specs.JpegBlocks.{pieces}
use Rattle.exif_blocks.proofs.jpeg.profile_segments.Given as goal

-- the segments that are left add to what is there what all of them add to nothing
abbrev pub invariant-loop-index : goal.invariant-loop-index
invariant-loop-index l =
    pieces (l.count - l.index) (l.index + 1) l.count l.rest l.out.items
    ≡ pieces l.count 1 l.count l.profile []
