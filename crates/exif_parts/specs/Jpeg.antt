-- A JPEG file written again: the pieces of its inventory that stay, in their order, and one new
-- segment (ITU-T T.81, B.1.1; Exif 2.32, 4.7.2).
use Rattle.std.specs.Prelude.{ℕ, zero, suc, ◌+◌, List, [], ◌∷◌, ◌++◌, length, take, drop, nat_lt, Bool, false, Option, None, Some, Result, Ok, Err, if◌then◌else◌}
use Rattle.std.specs.Int.{to_be_bytes, w16}
use Rattle.exif_types.specs.Refusals.{Refusal, invalid_format, ◌>>=◌}
use Rattle.exif_inventory.specs.JpegPieces.{is_jpeg, stream_piece}
use Rattle.exif_inventory.specs.declared.piece.Piece.{Piece}
use Rattle.exif_inventory.specs.declared.piece.State.{State}
use Rattle.exif_inventory.specs.declared.piece.State.TheVariants.{Stream, Resources}
use Rattle.exif_segments.specs.Jpeg.{broken_jpeg, not_jpeg}
use Rattle.exif_segments.specs.JpegGrammar.{exif_id}
use Rattle.exif_segments.specs.Removing.{too_large, behind}
use Rattle.exif_segments.specs.declared.remove.Remove.{Remove}
use Rattle.exif_parts.specs.Kept.{kept}
use Rattle.exif_parts.specs.Markers.{flaw, is_broken, is_end, is_insertion_point, marker_of}
use Rattle.exif_parts.specs.Written.{Written, finished}
use Rattle.exif_parts.specs.declared.rewritten.Ended.TheVariants.{Whole, Cut}

-- how many bytes of resources follow the front of a segment
abbrev pub resources_len : State → ℕ
resources_len (Resources picture scanned n) = n
resources_len state = 0

-- whether a scan began
abbrev pub is_scanned : State → Bool
is_scanned (Stream picture scanned) = scanned
is_scanned (Resources picture scanned n) = scanned
is_scanned state = false

-- the new segment at its insertion point, and what is left to be inserted behind that
abbrev pub inserted : Bool → List ℕ → List ℕ
inserted here new = if here then new else []

abbrev pub pending : Bool → List ℕ → List ℕ
pending here new = if here then [] else new

-- what a file becomes, or its refusal
abbrev pub Rewriting : Type 0
Rewriting = Result Written Refusal

-- what the bytes behind a piece become: by whether a scan began, what is left to be inserted, these
-- bytes, and those that were written so far
abbrev pub Next : Type 0
Next = Bool → List ℕ → List ℕ → List ℕ → Rewriting

-- what was written so far with what is inserted before one piece and what stays of it; and then the
-- next piece, or what stays behind the image
abbrev pub with_piece : Remove → List ℕ → List ℕ → Piece → List ℕ → List ℕ → Next → Rewriting
with_piece remove new out piece bytes rest next =
    let here = is_insertion_point (marker_of bytes) in
    let out' = (out ++ inserted here new) ++ kept remove piece.kind bytes in
    if is_end (marker_of bytes) then Ok (finished out' (behind remove rest) Whole) else
    next (is_scanned piece.next) (pending here new) rest out'

-- the same, unless the piece is refused
abbrev pub unless_flawed : Option (List ℕ) → Rewriting → Rewriting
unless_flawed None answer = answer
unless_flawed (Some text) answer = Err (invalid_format text)

-- the piece of this length, unless it is cut off: then the file ends, and what is left to be
-- inserted is its end
abbrev pub with_len : Remove → List ℕ → List ℕ → List ℕ → Piece → ℕ → Next → Rewriting
with_len remove new stream out piece len next =
    if is_broken piece.kind then Ok (finished out new Cut) else
    unless_flawed (flaw (take len stream))
    (with_piece remove new out piece (take len stream) (drop len stream) next)

-- what was written so far, and what at most n pieces become; each piece has a byte at least. A
-- segment of Photoshop is one piece with all its resources
unfoldable pub filtered : ℕ → Remove → Bool → List ℕ → List ℕ → List ℕ → Rewriting
filtered n remove scanned new [] out = Ok (finished out new Cut)
filtered zero remove scanned new (b ∷ bytes) out = Ok (finished out new Cut)
filtered (suc n) remove scanned new (b ∷ bytes) out =
    let piece = stream_piece 0 scanned (b ∷ bytes) in
    with_len remove new (b ∷ bytes) out piece (piece.len + resources_len piece.next)
    (filtered n remove)

-- the segment of new Exif data: APP1, its length, the identifier, the data
abbrev pub exif_segment : List ℕ → List ℕ
exif_segment payload =
    255 ∷ 225 ∷ (to_be_bytes w16 (8 + length payload) ++ (exif_id ++ payload))

-- that of new data, which have to fit, or no bytes where there are none
abbrev pub segment_of : Option (List ℕ) → Result (List ℕ) Refusal
segment_of None = Ok []
segment_of (Some payload) =
    if nat_lt 65527 (length payload) then Err too_large else Ok (exif_segment payload)

-- a file with this segment
abbrev pub with_segment : Remove → List ℕ → List ℕ → Rewriting
with_segment remove file new =
    if nat_lt (length file) 2 then Err broken_jpeg else
    if is_jpeg file
    then filtered (length (drop 2 file)) remove false new (drop 2 file) (255 ∷ 216 ∷ []) else
    Err not_jpeg

-- a JPEG file without its Exif data, or without all metadata, and with new Exif data if there are
-- some
abbrev pub rewritten : Remove → Option (List ℕ) → List ℕ → Rewriting
rewritten remove put file = segment_of put >>= λ new. with_segment remove file new
