-- Small PNG files written again, worked by hand.
use Rattle.std.specs.Prelude.{◌≡◌, refl, ℕ, List, [], ◌∷◌, ◌++◌, codes, None, Some, Ok, Err}
use Rattle.exif_inventory.specs.PngPieces.{png_piece}
use Rattle.exif_segments.specs.declared.remove.Remove.TheVariants.{Exif, Metadata}
use Rattle.exif_containers.specs.Png.{broken_png, invalid_length, not_png, png_signature}
use Rattle.exif_parts.specs.Png.{chunks_filtered, no_header, png_rewritten}

-- the header of an image of one pixel, with its CRC
abbrev header : List ℕ
header =
    0 ∷ 0 ∷ 0 ∷ 13 ∷ codes "IHDR" ++ 0 ∷ 0 ∷ 0 ∷ 1 ∷ 0 ∷ 0 ∷ 0 ∷ 1 ∷ 8 ∷ 0 ∷ 0 ∷ 0 ∷ 0
    ∷ 58 ∷ 126 ∷ 155 ∷ 85 ∷ []

-- a text, Exif data of one byte, and the end of the image; the CRCs of the first two are wrong
abbrev text : List ℕ
text = 0 ∷ 0 ∷ 0 ∷ 3 ∷ codes "tEXt" ++ 65 ∷ 0 ∷ 66 ∷ 1 ∷ 1 ∷ 1 ∷ 1 ∷ []

abbrev exif : List ℕ
exif = 0 ∷ 0 ∷ 0 ∷ 1 ∷ codes "eXIf" ++ 77 ∷ 2 ∷ 2 ∷ 2 ∷ 2 ∷ []

abbrev end : List ℕ
end = 0 ∷ 0 ∷ 0 ∷ 0 ∷ codes "IEND" ++ 174 ∷ 66 ∷ 96 ∷ 130 ∷ []

-- Exif data go, a text stays, and what follows the image too
exif_goes : png_rewritten Exif None
    (png_signature ++ (header ++ (text ++ (exif ++ (end ++ 7 ∷ [])))))
    ≡ Ok (png_signature ++ (header ++ (text ++ (end ++ 7 ∷ []))))
unfolding chunks_filtered png_piece
exif_goes = refl

-- all metadata go, and what follows the image
metadata_go : png_rewritten Metadata None
    (png_signature ++ (header ++ (text ++ (exif ++ (end ++ 7 ∷ [])))))
    ≡ Ok (png_signature ++ (header ++ end))
unfolding chunks_filtered png_piece
metadata_go = refl

-- new data are in a chunk after the header, with the CRC that another program computes
data_put : png_rewritten Exif (Some (77 ∷ 77 ∷ []))
    (png_signature ++ (header ++ (text ++ (exif ++ end))))
    ≡ Ok (png_signature
    ++ (header ++ (0 ∷ 0 ∷ 0 ∷ 2 ∷ codes "eXIf" ++ 77 ∷ 77 ∷ 6 ∷ 100 ∷ 23 ∷ 0 ∷ (text ++ end))))
unfolding chunks_filtered png_piece
data_put = refl

-- a palette, a colour profile and a size stay where all metadata go; how often colours are used, a
-- palette that is suggested, a date, an XMP packet and a chunk that is not known do not
abbrev shown : List ℕ
shown =
    0 ∷ 0 ∷ 0 ∷ 3 ∷ codes "PLTE" ++ 1 ∷ 2 ∷ 3 ∷ 9 ∷ 9 ∷ 9 ∷ 9
    ∷ 0 ∷ 0 ∷ 0 ∷ 1 ∷ codes "iCCP" ++ 1 ∷ 9 ∷ 9 ∷ 9 ∷ 9
    ∷ 0 ∷ 0 ∷ 0 ∷ 1 ∷ codes "pHYs" ++ 1 ∷ 9 ∷ 9 ∷ 9 ∷ 9 ∷ []

abbrev others : List ℕ
others =
    0 ∷ 0 ∷ 0 ∷ 2 ∷ codes "hIST" ++ 0 ∷ 1 ∷ 9 ∷ 9 ∷ 9 ∷ 9
    ∷ 0 ∷ 0 ∷ 0 ∷ 3 ∷ codes "sPLT" ++ 97 ∷ 0 ∷ 8 ∷ 9 ∷ 9 ∷ 9 ∷ 9
    ∷ 0 ∷ 0 ∷ 0 ∷ 1 ∷ codes "tIME" ++ 1 ∷ 9 ∷ 9 ∷ 9 ∷ 9
    ∷ 0 ∷ 0 ∷ 0 ∷ 24 ∷ codes "iTXtXML:com.adobe.xmp\0\0\0\0\0<>" ++ 9 ∷ 9 ∷ 9 ∷ 9
    ∷ 0 ∷ 0 ∷ 0 ∷ 1 ∷ codes "prVt" ++ 1 ∷ 9 ∷ 9 ∷ 9 ∷ 9 ∷ []

picture_stays : png_rewritten Metadata None
    (png_signature ++ (header ++ (shown ++ (others ++ end))))
    ≡ Ok (png_signature ++ (header ++ (shown ++ end)))
unfolding chunks_filtered png_piece
picture_stays = refl

others_stay : png_rewritten Exif None
    (png_signature ++ (header ++ (shown ++ (others ++ end))))
    ≡ Ok (png_signature ++ (header ++ (shown ++ (others ++ end))))
unfolding chunks_filtered png_piece
others_stay = refl

-- the file ends in a chunk that stays, or without its last chunk
cut : png_rewritten Exif None
    (png_signature ++ (header ++ (0 ∷ 0 ∷ 0 ∷ 3 ∷ codes "tEXt" ++ 65 ∷ [])))
    ≡ Err broken_png
unfolding chunks_filtered png_piece
cut = refl

no_end : png_rewritten Exif None (png_signature ++ header) ≡ Err broken_png
unfolding chunks_filtered png_piece
no_end = refl

-- a length of 2^31
too_long : png_rewritten Exif None
    (png_signature ++ (header ++ (128 ∷ 0 ∷ 0 ∷ 0 ∷ codes "tEXt" ++ 65 ∷ [])))
    ≡ Err invalid_length
unfolding chunks_filtered png_piece
too_long = refl

-- the first chunk is another, also one that is cut off
headless : png_rewritten Exif None (png_signature ++ end) ≡ Err no_header
headless = refl

cut_headless : png_rewritten Exif None
    (png_signature ++ (0 ∷ 0 ∷ 0 ∷ 3 ∷ codes "tEXt" ++ 65 ∷ []))
    ≡ Err no_header
cut_headless = refl

-- a header that is cut off, and a file of another format
cut_header : png_rewritten Exif None (png_signature ++ (0 ∷ 0 ∷ 0 ∷ 13 ∷ codes "IHDR"))
    ≡ Err broken_png
unfolding png_piece
cut_header = refl

foreign : png_rewritten Exif None (255 ∷ 216 ∷ 255 ∷ 224 ∷ 0 ∷ 2 ∷ 255 ∷ 217 ∷ []) ≡ Err not_png
foreign = refl
