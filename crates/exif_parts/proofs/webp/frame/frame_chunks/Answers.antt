use Rattle.std.proofs.Common.{arith}
use Rattle.std.proofs.lemmas.Bool.Decides.{nat_tests}
use Rattle.exif_parts.specs.WebpChunks.{frame_chunks}
use Rattle.exif_parts.proofs.WebpFrames.{frame_more, frame_over}
use Rattle.exif_parts.proofs.webp.frame.frame_chunks.Goals as goal

pub loop-rest-preserved : goal.loop-rest-preserved
loop-rest-preserved c =
    frame_more (frame_chunks c.args.bytes.now) c.loop-rest.rest.now c.loop-rest.out.items c.frame_piece-piece.result c.split.result.1.now c.add_piece.new.out.items
    c.loop-rest.invariant (grind (arith, nat_tests)) c.frame_piece-piece.ensures.value c.frame_piece-piece.ensures.some c.split.ensures.rest c.in_ok-add_piece.ensures

pub returns : goal.returns
returns c = frame_over (frame_chunks c.args.bytes.now) c.loop-rest.rest.now c.loop-rest.out.items c.loop-rest.invariant (grind (arith, nat_tests))
