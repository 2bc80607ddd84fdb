-- The piece of a file that comes next.
use Rattle.std.specs.Prelude.{ℕ, List, Option, Some, None, if◌then◌else◌}
use Rattle.exif_inventory.specs.JpegPieces.{between_piece, is_jpeg, start_piece, stream_piece}
use Rattle.exif_inventory.specs.JxlPieces.{box_piece, is_jxl}
use Rattle.exif_inventory.specs.PngPieces.{behind_png, is_png, png_piece, signature_piece}
use Rattle.exif_inventory.specs.Resources.{resource_piece}
use Rattle.exif_inventory.specs.WebpPieces.{chunk_piece, frame_piece, header_piece, is_webp}
use Rattle.exif_inventory.specs.declared.piece.Piece.{Piece}
use Rattle.exif_inventory.specs.declared.piece.State.{State}
use Rattle.exif_inventory.specs.declared.piece.State.TheVariants.{Opening, Stream, Resources, Between, Header, Chunks, Frame, PngSignature, PngChunks, PngEnd, JxlBoxes}

-- what a file begins with, if its format is known
abbrev pub start_of : List ℕ → Option State
start_of file =
    if is_jpeg file then Some Opening else
    if is_webp file then Some Header else
    if is_png file then Some PngSignature else
    if is_jxl file then Some JxlBoxes else None

-- the piece at the front of bytes
abbrev pub piece_at : State → List ℕ → Piece
piece_at Opening bytes = start_piece bytes
piece_at (Stream picture scanned) bytes = stream_piece picture scanned bytes
piece_at (Resources picture scanned space) bytes = resource_piece picture scanned space bytes
piece_at (Between picture) bytes = between_piece picture bytes
piece_at Header bytes = header_piece bytes
piece_at (Chunks space) bytes = chunk_piece space bytes
piece_at (Frame inner outer) bytes = frame_piece inner outer bytes
piece_at PngSignature bytes = signature_piece bytes
piece_at PngChunks bytes = png_piece bytes
piece_at PngEnd bytes = behind_png bytes
piece_at JxlBoxes bytes = box_piece bytes
