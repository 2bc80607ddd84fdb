use Rattle.std.proofs.Common.{arith, sym, ◌∙◌}
use Rattle.std.proofs.lemmas.Bool.Decides.{nat_tests}
use Rattle.exif_parts.proofs.WebpReads.{empty_cut, less_whole}
use Rattle.exif_parts.proofs.webp.chunk.whole_chunk.Goals as goal

pub returns-then-is_empty-clause-piece : goal.returns-then-is_empty-clause-piece
returns-then-is_empty-clause-piece c =
    rw c.cut_error.ensures (empty_cut c.args.space c.args.bytes.now c.requires (grind (arith, nat_tests)))

pub returns-clause-less : goal.returns-clause-less
returns-clause-less c =
    less_whole c.args.space c.args.bytes.now c.chunk_piece-piece.result c.requires c.chunk_piece-piece.ensures.value (sym c.is_cut.ensures ∙ c.if-is_cut.false)
