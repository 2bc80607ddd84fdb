-- The JPEG streams of a picture without their metadata (ITU-T T.81, B.1.1; TIFF 6.0, section 22;
-- TIFF Technical Note 2; JFIF 1.02).
use Rattle.std.specs.Prelude.{ℕ, ◌+◌, ◌-◌, min, List, length, Bool, false, ◌==◌, if◌then◌else◌}
use Rattle.exif_inventory.specs.JpegPieces.{fill_len, is_jpeg, stream_piece}
use Rattle.exif_inventory.specs.declared.kind.Kind.{Kind}
use Rattle.exif_inventory.specs.declared.kind.Kind.TheVariants as kind
use Rattle.exif_inventory.specs.declared.piece.Piece.{Piece}
use Rattle.exif_inventory.specs.declared.piece.State.{State}
use Rattle.exif_inventory.specs.declared.piece.State.TheVariants as state
use Rattle.exif_blanks.specs.BaseSteps.{whole}
use Rattle.exif_blanks.specs.declared.steps.Place.TheVariants.{Rest, Stream}
use Rattle.exif_blanks.specs.declared.steps.Step.{Step}

-- how many bytes of a marker segment stay, whose marker follows so many ffs: the marker and the
-- length; none of what is outside of segments
abbrev pub marker_kept : ℕ → ℕ
marker_kept fills = if fills == 0 then 0 else fills + 3

-- how many bytes of a piece of so many stay: all of the picture's and of its colour profile; the
-- twelve bytes of fields of a JFIF header and of Adobe's segment; else the marker and the length
abbrev pub piece_kept : Kind → ℕ → ℕ → ℕ
piece_kept kind.Picture fills len = len
piece_kept kind.IccProfile fills len = len
piece_kept kind.Jfif fills len = min len (fills + 15)
piece_kept kind.Adobe fills len = min len (fills + 15)
piece_kept k fills len = min len (marker_kept fills)

-- how many of all bytes a piece has, with the resources that it begins; where the image ends, or a
-- piece is cut off, all
abbrev pub full_len : State → ℕ → ℕ → ℕ
full_len (state.Stream picture scanned) len all = len
full_len (state.Resources picture scanned n) len all = len + min n (all - len)
full_len next len all = all

-- whether a scan began
abbrev pub is_scanned : State → Bool
is_scanned (state.Stream picture scanned) = scanned
is_scanned (state.Resources picture scanned n) = scanned
is_scanned next = false

-- what becomes of a piece, behind so many ffs, of so many bytes
abbrev pub piece_step : Piece → ℕ → ℕ → Step
piece_step piece fills all = record {
  len = full_len piece.next piece.len all;
  kept = piece_kept piece.kind fills piece.len;
  fill = 0;
  next = Stream (is_scanned piece.next);
}

-- what becomes of the bytes at the front of a stream behind its first marker
abbrev pub stream_step : Bool → List ℕ → Step
stream_step scanned bytes =
    piece_step (stream_piece 0 scanned bytes) (fill_len bytes) (length bytes)

-- the first marker of a stream, or bytes that are none, which all stay
abbrev pub start_step : List ℕ → Step
start_step bytes =
    if is_jpeg bytes then whole 2 (Stream false) else whole (length bytes) Rest
