-- The spans of a file, piece after piece.
use Rattle.std.specs.Prelude.{◌≡◌, ◌≤◌, ℕ, zero, suc, ◌+◌, ◌-◌, List, [], ◌∷◌, length, drop}
use Rattle.exif_inventory_heif.specs.Pieces.{piece_at}
use Rattle.exif_inventory_heif.specs.declared.piece.Piece.{Piece}
use Rattle.exif_inventory_heif.specs.declared.piece.State.{State}
use Rattle.exif_inventory_heif.specs.declared.piece.State.TheVariants.{Before}
use Rattle.exif_inventory_heif.specs.declared.span.Span.{Span}

-- the span of a piece from an offset on
abbrev pub span_at : ℕ → Piece → Span
span_at from piece = record {
  role = piece.role;
  from = from;
  content = from + piece.front;
  end = from + piece.len;
}

-- the spans of at most n pieces of the bytes from an offset on; each piece has a byte at least
unfoldable pub walked : ℕ → State → ℕ → List ℕ → List Span
walked n state from [] = []
walked zero state from (b ∷ bytes) = []
walked (suc n) state from (b ∷ bytes) =
    let piece = piece_at state (b ∷ bytes) in
    span_at from piece ∷ walked n piece.next (from + piece.len) (drop (piece.len - 1) bytes)

-- the spans of a file; a piece has a byte, so there are no more pieces than bytes
abbrev pub spans_of : List ℕ → List Span
spans_of file = walked (length file) Before 0 file

-- each span begins where the one before it ends, the first at `from`, and the last ends at `end`;
-- its content is a part of it
abbrev pub AreSpans : ℕ → List Span → ℕ → Type 0
AreSpans from [] end = from ≡ end
AreSpans from (span ∷ spans) end =
    (span.from ≡ from) × (span.from ≤ span.content) × (span.content ≤ span.end)
    × AreSpans span.end spans end

-- a span is within a file of this length
abbrev pub IsInside : ℕ → Span → Type 0
IsInside n span = (span.from ≤ span.end) × (span.end ≤ n)
