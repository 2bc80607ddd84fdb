-- Small WebP files written again, worked by hand.
use Rattle.std.specs.Prelude.{◌≡◌, ℕ, List, [], ◌∷◌, ◌++◌, codes, None, Some, Ok, Err}
use Rattle.std.proofs.Common.{refl}
use Rattle.exif_inventory.specs.WebpPieces.{chunk_piece, frame_piece}
use Rattle.exif_segments.specs.Webp.{broken_webp, overflowing}
use Rattle.exif_segments.specs.declared.remove.Remove.TheVariants.{Exif, Metadata}
use Rattle.exif_parts.specs.Webp.{filtered, no_canvas, webp_rewritten}
use Rattle.exif_parts.specs.WebpChunks.{frame_within}

-- a lossless image of 2 x 3 pixels with alpha, and "ab" as its Exif data
simple : webp_rewritten Exif (Some (codes "ab"))
    (codes "RIFF\u{12}\0\0\0WEBPVP8L\u{5}\0\0\0/\u{1}" ++ (128 ∷ 0 ∷ 16 ∷ 0 ∷ []))
    ≡ Ok (codes "RIFF.\0\0\0WEBPVP8X\n\0\0\0\u{18}\0\0\0\u{1}\0\0\u{2}\0\0VP8L\u{5}\0\0\0/\u{1}"
    ++ (128 ∷ 0 ∷ 16 ∷ 0 ∷ codes "EXIF\u{2}\0\0\0ab"))
unfolding filtered chunk_piece
simple = refl

-- all metadata go, the flags with them, an unknown chunk and what follows the body
bare : webp_rewritten Metadata None
    (codes "RIFF<\0\0\0WEBPVP8X\n\0\0\0\u{1c}\0\0\0\u{1}\0\0\u{2}\0\0VP8L\u{2}\0\0\0xy"
    ++ codes "EXIF\u{2}\0\0\0abXMP \u{1}\0\0\0c\0what\0\0\0\0end")
    ≡ Ok (codes "RIFF \0\0\0WEBPVP8X\n\0\0\0\u{10}\0\0\0\u{1}\0\0\u{2}\0\0VP8L\u{2}\0\0\0xy")
unfolding filtered chunk_piece
bare = refl

-- a file that begins with its colours has no place for a canvas
headless : webp_rewritten Metadata (Some (codes "ab")) (codes "RIFF\u{c}\0\0\0WEBPICCP\0\0\0\0")
    ≡ Err no_canvas
unfolding filtered chunk_piece
headless = refl

-- the fields of a frame: an offset of 0, one pixel, one millisecond
abbrev fields : List ℕ
fields = 0 ∷ 0 ∷ 0 ∷ 0 ∷ 0 ∷ 0 ∷ 0 ∷ 0 ∷ 0 ∷ 0 ∷ 0 ∷ 0 ∷ 1 ∷ 0 ∷ 0 ∷ 0 ∷ []

-- an animation frame of 68 bytes: alpha of one byte with a pad byte that is not 0, Exif data, an
-- image of two bytes, a chunk that is not known, and three bytes that hold no chunk, with the pad
-- byte of the frame
abbrev frame : List ℕ
frame =
    codes "ANMF;\0\0\0" ++ (fields ++ (codes "ALPH\u{1}\0\0\0a" ++ (7 ∷ codes "EXIF\u{2}\0\0\0xy")
    ++ (codes "VP8 \u{2}\0\0\0im" ++ codes "what\u{1}\0\0\0b\0" ++ codes "end\0")))

-- without all metadata it has its fields, its alpha and its image
bare_frame : webp_rewritten Metadata None (codes "RIFFH\0\0\0WEBP" ++ frame)
    ≡ Ok (codes "RIFF0\0\0\0WEBPANMF$\0\0\0" ++ (fields
    ++ codes "ALPH\u{1}\0\0\0a\0VP8 \u{2}\0\0\0im"))
unfolding filtered chunk_piece frame_piece frame_within
bare_frame = refl

-- and without its Exif data it stays as it is
whole_frame : webp_rewritten Exif None (codes "RIFFH\0\0\0WEBP" ++ frame)
    ≡ Ok (codes "RIFFH\0\0\0WEBP" ++ frame)
unfolding filtered chunk_piece
whole_frame = refl

-- a frame that is too short for its fields is an unknown chunk
short_frame : webp_rewritten Metadata None (codes "RIFF\u{e}\0\0\0WEBPANMF\u{2}\0\0\0fr")
    ≡ Ok (codes "RIFF\u{4}\0\0\0WEBP")
unfolding filtered chunk_piece
short_frame = refl

-- a frame that is longer than the file says, and one that is longer than the file
long_frame : webp_rewritten Metadata None (codes "RIFF\u{1c}\0\0\0WEBPANMF\u{11}\0\0\0" ++ fields)
    ≡ Err overflowing
unfolding filtered chunk_piece
long_frame = refl

cut_frame : webp_rewritten Metadata None (codes "RIFF\u{1e}\0\0\0WEBPANMF\u{12}\0\0\0" ++ fields)
    ≡ Err broken_webp
unfolding filtered chunk_piece
cut_frame = refl
