use Rattle.std.proofs.Common.{◌≡◌, ◌+◌, ◌-◌, ◌++◌, ℕ, List, drop, take, ap, sym, ◌∙◌, arith}
use Rattle.exif_blocks.specs.JpegBlocks.{piece, pieces}
use Rattle.exif_blocks.proofs.Spans.{piece_added}
use Rattle.exif_blocks.proofs.jpeg.profile_segments.Goals as goal

pub add_piece-requires : goal.add_piece-requires
add_piece-requires c = c.split.ensures.most

pub loop-index-preserved : goal.loop-index-preserved
loop-index-preserved c =
    let count = c.count_for-count.result in
    let index = c.loop-index.index in
    let rest = c.loop-index.rest.now in
    let out = c.loop-index.out.items in
    let made = c.add_piece.new.out.items in
    let fewer : count - (index + 1) ≡ count - index - 1 = omega arith in
    let next : made ≡ out ++ piece (index + 1) count (take 65519 rest) =
    c.in_ok-add_piece.ensures ∙ ap (λ (b : List ℕ). out ++ piece (index + 1) count b) c.split.ensures.first in
    ap (λ n. pieces n (index + 1 + 1) count c.split.result.1.now made) fewer
    ∙ (ap (λ (r : List ℕ). pieces (count - index - 1) (index + 1 + 1) count r made) c.split.ensures.rest
    ∙ (ap (λ (m : List ℕ). pieces (count - index - 1) (index + 1 + 1) count (drop 65519 rest) m) next
    ∙ (sym (piece_added (count - index) (index + 1) count rest out (omega arith)) ∙ c.loop-index.invariant)))
