-- What holds of WebP files that are written again.
use Rattle.std.specs.Prelude.{◌≡◌, ◌-◌, ◌==◌, ◌⊎◌, ⊤, ℕ, zero, suc, List, length, take, drop, codes, Option, None, Some, Ok}
use Rattle.exif_inventory.specs.WebpPieces.{chunk_piece, number_at}
use Rattle.exif_inventory.specs.declared.piece.Piece.{Piece}
use Rattle.exif_segments.specs.Answer.{found, refused}
use Rattle.exif_segments.specs.Webp.{no_exif_in_webp, webp_answer}
use Rattle.exif_segments.specs.declared.remove.Remove.{Remove}
use Rattle.exif_segments.specs.declared.remove.Remove.TheVariants.{Metadata}
use Rattle.exif_parts.specs.Laws.{EndsOr}
use Rattle.exif_parts.specs.Webp.{is_put, kept_chunk, named_chunk, webp_rewritten}
use Rattle.exif_parts.specs.WebpChunks.{space_behind}

-- the reader finds these Exif data in a file, or that it has none
abbrev pub WebpAnswers : Option (List ℕ) → List ℕ → Type 0
WebpAnswers None new = webp_answer new ≡ refused no_exif_in_webp
WebpAnswers (Some payload) new = (rest : List ℕ) × (webp_answer new ≡ found payload rest)

-- the reader finds in the new file what was put
abbrev pub WebpIsAnswered : Remove → Option (List ℕ) → List ℕ → List ℕ → Type 0
WebpIsAnswered remove put file new = webp_rewritten remove put file ≡ Ok new → WebpAnswers put new

-- a new file that is written again becomes itself
abbrev pub WebpIsStable : Remove → Option (List ℕ) → List ℕ → List ℕ → Type 0
WebpIsStable remove put file new =
    webp_rewritten remove put file ≡ Ok new → webp_rewritten remove put new ≡ Ok new

-- a piece that stays as it is where all metadata go, a frame with all its chunks, or the new chunk
abbrev pub IsBareChunk : Option (List ℕ) → Piece → List ℕ → ℕ → Type 0
IsBareChunk put piece bytes len =
    (kept_chunk Metadata (is_put put) piece bytes ≡ take len bytes)
    ⊎ (take len bytes ≡ named_chunk (codes "EXIF") put)

-- a body of so much space has only such pieces, and nothing is behind it: over at most n pieces
unfoldable pub AreBareChunks : ℕ → Option (List ℕ) → ℕ → List ℕ → Type 0
AreBareChunks zero put space bytes = ⊤
AreBareChunks (suc n) put space bytes =
    let piece = chunk_piece space bytes in
    let len = space - space_behind piece.next in
    EndsOr (space == 0) bytes
    (IsBareChunk put piece bytes len
    × AreBareChunks n put (space_behind piece.next) (drop len bytes))

-- a file behind its header
abbrev pub HasOnlyBareChunks : Option (List ℕ) → List ℕ → Type 0
HasOnlyBareChunks put file =
    AreBareChunks (length file) put (number_at 4 file - 4) (drop 12 file)

-- a new file without metadata has nothing else
abbrev pub WebpLeavesNoMetadata : Option (List ℕ) → List ℕ → List ℕ → Type 0
WebpLeavesNoMetadata put file new =
    webp_rewritten Metadata put file ≡ Ok new → HasOnlyBareChunks put new
