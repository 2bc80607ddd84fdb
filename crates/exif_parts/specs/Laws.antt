-- What holds of files that are written again.
use Rattle.std.specs.Prelude.{◌≡◌, ◌+◌, ◌⊎◌, ⊤, ℕ, zero, suc, Bool, true, false, List, [], ◌∷◌, length, take, drop, Option, None, Some, Ok}
use Rattle.exif_inventory.specs.JpegPieces.{stream_piece}
use Rattle.exif_inventory.specs.declared.kind.Kind.{Kind}
use Rattle.exif_segments.specs.Answer.{Answer, found, refused}
use Rattle.exif_segments.specs.Jpeg.{broken_jpeg, jpeg_answer, no_exif_in_jpeg}
use Rattle.exif_segments.specs.declared.remove.Remove.{Remove}
use Rattle.exif_segments.specs.declared.remove.Remove.TheVariants.{Metadata}
use Rattle.exif_parts.specs.Jpeg.{exif_segment, is_scanned, resources_len, rewritten}
use Rattle.exif_parts.specs.Kept.{kept}
use Rattle.exif_parts.specs.Markers.{is_end, marker_of}
use Rattle.exif_parts.specs.Written.{Written}
use Rattle.exif_parts.specs.declared.rewritten.Ended.{Ended}
use Rattle.exif_parts.specs.declared.rewritten.Ended.TheVariants.{Whole, Cut}

-- what the reader answers of a stream without Exif data
abbrev pub answer_without : Ended → Answer
answer_without Whole = refused no_exif_in_jpeg
answer_without Cut = refused broken_jpeg

-- the reader finds these Exif data in a stream, or that it has none
abbrev pub Answers : Option (List ℕ) → Written → Type 0
Answers None new = jpeg_answer new.bytes ≡ answer_without new.ended
Answers (Some payload) new = (rest : List ℕ) × (jpeg_answer new.bytes ≡ found payload rest)

-- the reader finds in the new file what was put
abbrev pub IsAnswered : Remove → Option (List ℕ) → List ℕ → Written → Type 0
IsAnswered remove put file new = rewritten remove put file ≡ Ok new → Answers put new

-- a new file that is written again becomes itself
abbrev pub IsStable : Remove → Option (List ℕ) → List ℕ → Written → Type 0
IsStable remove put file new =
    rewritten remove put file ≡ Ok new → rewritten remove put new.bytes ≡ Ok new

-- a piece that stays as it is where all metadata go, or the new segment
abbrev pub IsBarePiece : List ℕ → Kind → List ℕ → Type 0
IsBarePiece new k piece = (kept Metadata k piece ≡ piece) ⊎ (piece ≡ new)

-- nothing is behind the end of an image; behind another piece this holds
abbrev pub EndsOr : Bool → List ℕ → Type 0 → Type 0
EndsOr true rest P = rest ≡ []
EndsOr false rest P = P

-- a stream has only such pieces, and nothing behind its image: over at most n pieces
unfoldable pub AreBare : ℕ → List ℕ → Bool → List ℕ → Type 0
AreBare n new scanned [] = ⊤
AreBare zero new scanned (b ∷ bytes) = ⊤
AreBare (suc n) new scanned (b ∷ bytes) =
    let piece = stream_piece 0 scanned (b ∷ bytes) in
    let len = piece.len + resources_len piece.next in
    IsBarePiece new piece.kind (take len (b ∷ bytes))
    × EndsOr (is_end (marker_of (take len (b ∷ bytes)))) (drop len (b ∷ bytes))
    (AreBare n new (is_scanned piece.next) (drop len (b ∷ bytes)))

-- a file behind its first marker
abbrev pub HasOnlyBare : Option (List ℕ) → List ℕ → Type 0
HasOnlyBare None file = AreBare (length (drop 2 file)) [] false (drop 2 file)
HasOnlyBare (Some payload) file =
    AreBare (length (drop 2 file)) (exif_segment payload) false (drop 2 file)

-- a new file without metadata has nothing else
abbrev pub LeavesNoMetadata : Option (List ℕ) → List ℕ → Written → Type 0
LeavesNoMetadata put file new = rewritten Metadata put file ≡ Ok new → HasOnlyBare put new.bytes
