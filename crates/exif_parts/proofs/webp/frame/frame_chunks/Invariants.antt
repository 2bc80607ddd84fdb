use Rattle.std.proofs.Common.{length}
use Rattle.exif_parts.specs.WebpChunks.{frame_chunks}
use Rattle.exif_parts.proofs.WebpFrames.{FrameRuns}
use Rattle.exif_parts.proofs.webp.frame.frame_chunks.Given as goal

-- what stays so far, and of what is left, is what stays of all
abbrev pub invariant-loop-rest : goal.invariant-loop-rest
invariant-loop-rest l = FrameRuns (frame_chunks l.bytes) l.rest l.out.items

abbrev pub decreases-loop-rest : goal.decreases-loop-rest
decreases-loop-rest l = length l.rest
