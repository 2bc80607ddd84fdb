-- Small files with one block of Exif data or with two, by bytes written by hand.
use Rattle.std.specs.Prelude.{◌≡◌, refl, true, false, [], ◌∷◌, ◌++◌, codes}
use Rattle.exif_inventory.specs.Walks.{walked}
use Rattle.exif_inventory.specs.WebpPieces.{chunk_piece}
use Rattle.exif_setting.specs.Second.{second_in_jpeg, second_in_webp}

-- one segment of Exif data, and a comment that is cut
one_and_cut : second_in_jpeg
    (255 ∷ 216 ∷ 255 ∷ 225 ∷ 0 ∷ 9 ∷ codes "Exif\0\0a" ++ 255 ∷ 254 ∷ 0 ∷ 9 ∷ 1 ∷ []) ≡ false
one_and_cut = refl

-- two, with a comment between them, and an image that is cut
two_and_cut : second_in_jpeg
    (255 ∷ 216 ∷ 255 ∷ 225 ∷ 0 ∷ 9 ∷ codes "Exif\0\0a"
    ++ 255 ∷ 254 ∷ 0 ∷ 3 ∷ 1 ∷ 255 ∷ 225 ∷ 0 ∷ 9 ∷ codes "Exif\0\0b" ++ 255 ∷ 219 ∷ 0 ∷ 9 ∷ [])
    ≡ true
two_and_cut = refl

-- what follows the end of the image is none of it
behind_the_end : second_in_jpeg
    (255 ∷ 216 ∷ 255 ∷ 225 ∷ 0 ∷ 9 ∷ codes "Exif\0\0a"
    ++ 255 ∷ 217 ∷ 255 ∷ 216 ∷ 255 ∷ 225 ∷ 0 ∷ 9 ∷ codes "Exif\0\0b") ≡ false
behind_the_end = refl

-- a chunk of Exif data
one_chunk : second_in_webp (codes "RIFF\u{e}\0\0\0WEBPEXIF\u{2}\0\0\0ab") ≡ false
unfolding walked chunk_piece
one_chunk = refl

-- and two, with another one between them
two_chunks : second_in_webp
    (codes "RIFF \0\0\0WEBPEXIF\u{2}\0\0\0abwhat\0\0\0\0EXIF\u{2}\0\0\0ab") ≡ true
unfolding walked chunk_piece
two_chunks = refl
