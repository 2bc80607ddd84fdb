use Rattle.std.proofs.Common.{rules}
use Rattle.exif_segments.proofs.JpegMoves.{payload_skipped, payload_found}
use Rattle.exif_segments.proofs.jpeg.exif_payload.Goals as goal

pub returns-then-ne-clause-taken : goal.returns-then-ne-clause-taken
returns-then-ne-clause-taken g c =
    payload_skipped _ _ _ _ _ _ _ c.fill_within.new.buf (search rules) (search rules) c.if-ne.ensures c.in_ok-fill_within.ensures.taken c.in_ok-_passed.ensures.taken

pub returns-clause-taken : goal.returns-clause-taken
returns-clause-taken g c =
    payload_found _ _ _ _ _ _ _ c.fill_within.new.buf _ (search rules) (search rules) c.in_ok-payload.ensures.len c.if-ne.ensures c.in_ok-fill_within.ensures.taken c.in_ok-payload.ensures.taken
