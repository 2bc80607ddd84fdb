-- Small JPEG files written again, whole ones and one that is cut off, worked by hand.
use Rattle.std.specs.Prelude.{◌≡◌, refl, [], ◌∷◌, None, Ok, Err}
use Rattle.exif_inventory.specs.JpegPieces.{stream_piece}
use Rattle.exif_segments.specs.Jpeg.{broken_jpeg}
use Rattle.exif_segments.specs.declared.remove.Remove.TheVariants.{Exif, Metadata}
use Rattle.exif_parts.specs.Jpeg.{filtered, rewritten}
use Rattle.exif_rewrite.specs.RewrittenJpeg.{as_it_stands, jpeg_rewriting}

-- a comment and what follows EOI go with all metadata
whole : jpeg_rewriting Metadata None
    (255 ∷ 216 ∷ 255 ∷ 254 ∷ 0 ∷ 3 ∷ 1 ∷ 255 ∷ 218 ∷ 0 ∷ 2 ∷ 7 ∷ 255 ∷ 217 ∷ 9 ∷ [])
    ≡ Ok (255 ∷ 216 ∷ 255 ∷ 218 ∷ 0 ∷ 2 ∷ 7 ∷ 255 ∷ 217 ∷ [])
unfolding filtered stream_piece
whole = refl

-- a file that ends in its scan is refused
cut : jpeg_rewriting Exif None (255 ∷ 216 ∷ 255 ∷ 218 ∷ 0 ∷ 2 ∷ 7 ∷ []) ≡ Err broken_jpeg
unfolding filtered stream_piece
cut = refl

-- or written as far as it goes
standing : as_it_stands (rewritten Exif None (255 ∷ 216 ∷ 255 ∷ 218 ∷ 0 ∷ 2 ∷ 7 ∷ []))
    ≡ Ok (255 ∷ 216 ∷ 255 ∷ 218 ∷ 0 ∷ 2 ∷ 7 ∷ [])
unfolding filtered stream_piece
standing = refl
