-- Worked examples: files with a colour profile, by bytes written by hand.
use Rattle.std.specs.Prelude.{◌≡◌, refl, [], ◌∷◌, ◌++◌, codes, Some, None}
use Rattle.exif_inventory.specs.Walks.{walked}
use Rattle.exif_inventory.specs.JpegPieces.{between_piece, stream_piece}
use Rattle.exif_inventory.specs.WebpPieces.{chunk_piece}
use Rattle.exif_rewrite.specs.Color.{colorless, shrunk, unflagged}

-- between the first marker and the last a segment of a profile, of 16 bytes
jpeg : colorless (255 ∷ 216 ∷ 255 ∷ 226 ∷ 0 ∷ 16 ∷ codes "ICC_PROFILE\0" ++ 1 ∷ 1 ∷ 255 ∷ 217 ∷ [])
    ≡ Some (255 ∷ 216 ∷ 255 ∷ 217 ∷ [])
unfolding walked between_piece stream_piece
jpeg = refl

-- an extended header with the flags of a profile and of alpha, a profile of three bytes with its pad
-- byte, and an image of two: of 44 bytes behind the size 12 go
webp : colorless (codes "RIFF,\0\0\0WEBPVP8X\n\0\0\00\0\0\0\0\0\0\0\0\0ICCP\u{3}\0\0\0abc\0VP8 \u{2}\0\0\0xy")
    ≡ Some (codes "RIFF \0\0\0WEBPVP8X\n\0\0\0\u{10}\0\0\0\0\0\0\0\0\0VP8 \u{2}\0\0\0xy")
unfolding walked chunk_piece shrunk unflagged
webp = refl

-- a file of another format
other : colorless (codes "II*\0") ≡ None
other = refl
