use Rattle.std.proofs.Common.{◌≡◌, false, cond, ltb, ap, sym, ◌∙◌, arith}
use Rattle.std.proofs.lemmas.Bool.{le-ltb}
use Rattle.exif_inventory.specs.JpegPieces.{fill_len, free_len, free_piece, stream_piece, unit_piece}
use Rattle.exif_inventory.proofs.jpeg.stream_piece.Goals as goal

pub returns-clause-value : goal.returns-clause-value
unfolding stream_piece
returns-clause-value c =
    let bytes = c.args.bytes.now in
    let free : c.free_len-free.result ≡ free_len bytes = c.free_len-free.ensures.value in
    let none : ltb 0 (free_len bytes) ≡ false = le-ltb 0 (free_len bytes) (omega arith) in
    c.unit_piece.ensures.value
    ∙ ap (λ n. unit_piece c.args.picture c.args.scanned n bytes) c.fill_len.ensures.value
    ∙ sym (ap (λ t. cond t (free_piece c.args.picture c.args.scanned (free_len bytes)) (unit_piece c.args.picture c.args.scanned (fill_len bytes) bytes)) none)
