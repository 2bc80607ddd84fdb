use Rattle.std.proofs.Common.{◌≡◌, ◌≤◌, length, sym, ◌∙◌, arith}
use Rattle.exif_inventory.specs.JpegPieces.{gap_len}
use Rattle.exif_inventory.proofs.ScanSteps.{stream_long}
use Rattle.exif_inventory.proofs.jpeg.between_piece.Goals as goal

pub returns-clause-within : goal.returns-clause-within
returns-clause-within c =
    let none : gap_len c.args.bytes.now ≡ 0 = sym c.gap_len-gap.ensures.value ∙ omega arith in
    let long : 2 ≤ length c.args.bytes.now = stream_long c.args.bytes.now (omega arith) none in
    omega arith
