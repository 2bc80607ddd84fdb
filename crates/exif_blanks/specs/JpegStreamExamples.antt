-- Worked examples: what of JPEG streams stays, by bytes written by hand.
use Rattle.std.specs.Prelude.{◌≡◌, refl, [], ◌∷◌, ◌++◌, codes, replicate}
use Rattle.exif_inventory.specs.JpegPieces.{stream_piece}
use Rattle.exif_blanks.specs.Steps.{bared, bared_from}
use Rattle.exif_blanks.specs.declared.steps.Place.TheVariants.{Start}

-- a comment becomes zeros, and so does what follows the image
comment : bared Start (0xff ∷ 0xd8 ∷ 0xff ∷ 0xfe ∷ 0 ∷ 4 ∷ codes "hi" ++ 0xff ∷ 0xd9 ∷ 1 ∷ [])
    ≡ 0xff ∷ 0xd8 ∷ 0xff ∷ 0xfe ∷ 0 ∷ 4 ∷ 0 ∷ 0 ∷ 0xff ∷ 0xd9 ∷ 0 ∷ []
unfolding bared_from stream_piece
comment = refl

-- Exif data before a scan, and a comment within its data
around_scan : bared Start (0xff ∷ 0xd8 ∷ 0xff ∷ 0xe1 ∷ 0 ∷ 9 ∷ codes "Exif\0\0" ++ 7 ∷ 0xff ∷ 0xda
    ∷ 0 ∷ 2 ∷ 1 ∷ 2 ∷ 0xff ∷ 0xfe ∷ 0 ∷ 3 ∷ 5 ∷ 3 ∷ 0xff ∷ 0xd9 ∷ [])
    ≡ 0xff ∷ 0xd8 ∷ 0xff ∷ 0xe1 ∷ 0 ∷ 9 ∷ replicate 7 0 ++ 0xff ∷ 0xda ∷ 0 ∷ 2
    ∷ 1 ∷ 2 ∷ 0xff ∷ 0xfe ∷ 0 ∷ 3 ∷ 0 ∷ 3 ∷ 0xff ∷ 0xd9 ∷ []
unfolding bared_from stream_piece
around_scan = refl

-- a JFIF header with a thumbnail of one pixel
jfif : bared Start (0xff ∷ 0xd8 ∷ 0xff ∷ 0xe0 ∷ 0 ∷ 19 ∷ codes "JFIF\0" ++ 1 ∷ 2 ∷ 0 ∷ 0 ∷ 72
    ∷ 0 ∷ 72 ∷ 1 ∷ 1 ∷ 9 ∷ 9 ∷ 9 ∷ [])
    ≡ 0xff ∷ 0xd8 ∷ 0xff ∷ 0xe0 ∷ 0 ∷ 19 ∷ codes "JFIF\0" ++ 1 ∷ 2 ∷ 0 ∷ 0 ∷ 72 ∷ 0 ∷ 72
    ∷ replicate 5 0
unfolding bared_from stream_piece
jfif = refl

-- Adobe's segment with a byte more than its fields, behind two ffs that fill the space
adobe : bared Start (0xff ∷ 0xd8 ∷ 0xff ∷ 0xff ∷ 0xff ∷ 0xee ∷ 0 ∷ 15 ∷ codes "Adobe" ++ 0 ∷ 100 ∷ 0
    ∷ 0 ∷ 0 ∷ 0 ∷ 1 ∷ 8 ∷ [])
    ≡ 0xff ∷ 0xd8 ∷ 0xff ∷ 0xff ∷ 0xff ∷ 0xee ∷ 0 ∷ 15 ∷ codes "Adobe" ++ 0 ∷ 100 ∷ 0 ∷ 0 ∷ 0 ∷ 0
    ∷ 1 ∷ 0 ∷ []
unfolding bared_from stream_piece
adobe = refl

-- the resources of Photoshop, and bytes outside of segments
photoshop : bared Start (0xff ∷ 0xd8 ∷ 0xff ∷ 0xed ∷ 0 ∷ 18 ∷ codes "Photoshop 3.0\0" ++ 5 ∷ 6
    ∷ 7 ∷ 0xff ∷ 0xc4 ∷ 0 ∷ 3 ∷ 4 ∷ [])
    ≡ 0xff ∷ 0xd8 ∷ 0xff ∷ 0xed ∷ 0 ∷ 18 ∷ replicate 16 0 ++ 0 ∷ 0xff ∷ 0xc4 ∷ 0 ∷ 3 ∷ 4 ∷ []
unfolding bared_from stream_piece
photoshop = refl

-- a colour profile stays; a segment that is cut off becomes zeros
cut : bared Start (0xff ∷ 0xd8 ∷ 0xff ∷ 0xe2 ∷ 0 ∷ 15 ∷ codes "ICC_PROFILE\0" ++ 1 ∷ 0xff ∷ 0xe1
    ∷ 0 ∷ 9 ∷ 1 ∷ [])
    ≡ 0xff ∷ 0xd8 ∷ 0xff ∷ 0xe2 ∷ 0 ∷ 15 ∷ codes "ICC_PROFILE\0" ++ 1 ∷ 0xff ∷ 0xe1 ∷ 0 ∷ 9 ∷ 0 ∷ []
unfolding bared_from stream_piece
cut = refl

-- bytes that are no stream
other : bared Start (0xff ∷ 0xd9 ∷ 1 ∷ []) ≡ 0xff ∷ 0xd9 ∷ 1 ∷ []
unfolding bared_from
other = refl
