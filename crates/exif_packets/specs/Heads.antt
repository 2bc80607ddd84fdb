-- How much of a JPEG file is in front of its first scan (ITU-T T.81, B.1.1).
use Rattle.std.specs.Prelude.{ℕ, ⊤, zero, suc, ◌+◌, ◌≤◌, min, false, List, [], ◌∷◌, length, drop, Option, Some, None, if◌then◌else◌}
use Rattle.exif_inventory.specs.JpegPieces.{is_jpeg, stream_piece}
use Rattle.exif_inventory.specs.declared.kind.Kind.{Kind}
use Rattle.exif_inventory.specs.declared.kind.Kind.TheVariants as kind
use Rattle.exif_inventory.specs.declared.piece.Piece.{Piece}
use Rattle.exif_inventory.specs.declared.piece.State.{State}
use Rattle.exif_inventory.specs.declared.piece.State.TheVariants as state
use Rattle.exif_packets.specs.declared.head.Step.{Step}
use Rattle.exif_packets.specs.declared.head.Step.TheVariants.{Ends, Goes, Cut}

-- so many bytes and more, if there are
abbrev pub behind : ℕ → ℕ → List ℕ → ℕ
behind len more bytes = min (len + more) (length bytes)

-- what an end of the stream says: it is cut, or the end of the image
abbrev pub end_of : Kind → ℕ → Step
end_of kind.Broken len = Cut
end_of _ len = Ends len

-- what a piece in front of the first scan says, by what comes behind it: the head ends with the
-- header of a scan, and with the end of the image; it goes on behind the resources of a segment
abbrev pub step_by : Kind → ℕ → State → List ℕ → Step
step_by k len (state.Stream picture scanned) bytes =
    if scanned then Ends (behind len 0 bytes) else Goes (behind len 0 bytes)
step_by k len (state.Resources picture scanned space) bytes = Goes (behind len space bytes)
step_by k len _ bytes = end_of k (behind len 0 bytes)

abbrev pub step_of : Piece → List ℕ → Step
step_of piece bytes = step_by piece.kind piece.len piece.next bytes

-- that of the piece that comes next
abbrev pub step_at : List ℕ → Step
step_at bytes = step_of (stream_piece 0 false bytes) bytes

-- the head ends or goes on within so many bytes
abbrev pub IsWithin : ℕ → Step → Type 0
IsWithin n (Ends len) = len ≤ n
IsWithin n (Goes len) = len ≤ n
IsWithin n Cut = ⊤

-- what follows from a step at an offset
abbrev pub after : ℕ → (ℕ → Option ℕ) → Step → Option ℕ
after at next (Ends len) = Some (at + len)
after at next (Goes len) = next len
after at next Cut = None

-- the offset of the end of the head by at most n pieces, where these bytes are left at an offset
unfoldable pub head_by : ℕ → ℕ → List ℕ → Option ℕ
head_by zero at left = None
head_by (suc n) at [] = None
head_by (suc n) at (b ∷ left) =
    after at (λ len. head_by n (at + len) (drop len (b ∷ left))) (step_at (b ∷ left))

-- the length of the head of a file of which this is a prefix, if the prefix has all of it; each
-- piece has a byte, so there are no more pieces than bytes
abbrev pub head_len : List ℕ → Option ℕ
head_len prefix =
    if is_jpeg prefix then head_by (length prefix) 2 (drop 2 prefix) else None
