-- Small JPEG files written again, worked by hand.
use Rattle.std.specs.Prelude.{◌≡◌, refl, [], ◌∷◌, ◌++◌, codes, None, Some, Ok, Err}
use Rattle.exif_inventory.specs.JpegPieces.{stream_piece}
use Rattle.exif_segments.specs.Jpeg.{broken_jpeg, invalid_length, not_jpeg, unexpected_soi}
use Rattle.exif_segments.specs.declared.remove.Remove.TheVariants.{Exif, Metadata}
use Rattle.exif_parts.specs.Jpeg.{exif_segment, filtered, rewritten}
use Rattle.exif_parts.specs.declared.rewritten.Ended.TheVariants.{Whole, Cut}

-- the segment of new data: its length counts itself, the identifier and the data
segment : exif_segment (codes "ab") ≡ 255 ∷ 225 ∷ 0 ∷ 10 ∷ codes "Exif\0\0ab"
segment = refl

-- new data are behind APP0, and what follows EOI stays
inserted_behind : rewritten Exif (Some (codes "ab"))
    (255 ∷ 216 ∷ 255 ∷ 224 ∷ 0 ∷ 2 ∷ 255 ∷ 218 ∷ 0 ∷ 2 ∷ 7 ∷ 255 ∷ 217 ∷ 9 ∷ [])
    ≡ Ok (record {
      bytes = 255 ∷ 216 ∷ 255 ∷ 224 ∷ 0 ∷ 2
          ∷ (exif_segment (codes "ab") ++ (255 ∷ 218 ∷ 0 ∷ 2 ∷ 7 ∷ 255 ∷ 217 ∷ 9 ∷ []));
      ended = Whole;
    })
unfolding filtered stream_piece
inserted_behind = refl

-- new data take the place of Exif data that are in front of JFIF's header
in_place_of_exif : rewritten Exif (Some (codes "ab"))
    (255 ∷ 216 ∷ 255 ∷ 225 ∷ 0 ∷ 9 ∷ (codes "Exif\0\0"
    ++ (1 ∷ 255 ∷ 224 ∷ 0 ∷ 2 ∷ 255 ∷ 217 ∷ [])))
    ≡ Ok (record {
      bytes = 255 ∷ 216 ∷ (exif_segment (codes "ab") ++ (255 ∷ 224 ∷ 0 ∷ 2 ∷ 255 ∷ 217 ∷ []));
      ended = Whole;
    })
unfolding filtered stream_piece
in_place_of_exif = refl

-- a comment, bytes in front of the scan and what follows EOI go with all metadata
bare : rewritten Metadata None
    (255 ∷ 216 ∷ 255 ∷ 254 ∷ 0 ∷ 3 ∷ 1 ∷ 5 ∷ 255 ∷ 218 ∷ 0 ∷ 2 ∷ 7 ∷ 255 ∷ 217 ∷ 9 ∷ [])
    ≡ Ok (record { bytes = 255 ∷ 216 ∷ 255 ∷ 218 ∷ 0 ∷ 2 ∷ 7 ∷ 255 ∷ 217 ∷ []; ended = Whole })
unfolding filtered stream_piece
bare = refl

-- and so does a segment of Photoshop, with a resource in it
bare_of_resources : rewritten Metadata None
    (255 ∷ 216 ∷ 255 ∷ 237 ∷ 0 ∷ 28 ∷ (codes "Photoshop 3.0\0" ++ (codes "8BIM"
    ++ (4 ∷ 10 ∷ 0 ∷ 0 ∷ 0 ∷ 0 ∷ 0 ∷ 0 ∷ 255 ∷ 217 ∷ []))))
    ≡ Ok (record { bytes = 255 ∷ 216 ∷ 255 ∷ 217 ∷ []; ended = Whole })
unfolding filtered stream_piece
bare_of_resources = refl

-- the frame of JPEG-LS (f7) stays, and segments with a reserved marker do (02, f9); a segment of
-- an application that is not known goes
rare_markers : rewritten Metadata None
    (255 ∷ 216 ∷ 255 ∷ 247 ∷ 0 ∷ 2 ∷ 255 ∷ 2 ∷ 0 ∷ 2 ∷ 255 ∷ 249 ∷ 0 ∷ 2 ∷ 255 ∷ 239 ∷ 0 ∷ 2
    ∷ 255 ∷ 217 ∷ [])
    ≡ Ok (record {
      bytes = 255 ∷ 216 ∷ 255 ∷ 247 ∷ 0 ∷ 2 ∷ 255 ∷ 2 ∷ 0 ∷ 2 ∷ 255 ∷ 249 ∷ 0 ∷ 2
          ∷ 255 ∷ 217 ∷ [];
      ended = Whole;
    })
unfolding filtered stream_piece
rare_markers = refl

-- JFIF's header loses its thumbnail, and the thumbnail in a segment of its own goes
trimmed_segments : rewritten Metadata None
    (255 ∷ 216 ∷ 255 ∷ 224 ∷ 0 ∷ 19 ∷ (codes "JFIF\0"
    ++ (1 ∷ 2 ∷ 0 ∷ 0 ∷ 1 ∷ 0 ∷ 1 ∷ 1 ∷ 1 ∷ 7 ∷ 8 ∷ 9
    ∷ 255 ∷ 224 ∷ 0 ∷ 9 ∷ (codes "JFXX\0" ++ (19 ∷ 1
    ∷ 255 ∷ 218 ∷ 0 ∷ 2 ∷ 7 ∷ 255 ∷ 217 ∷ [])))))
    ≡ Ok (record {
      bytes = 255 ∷ 216 ∷ 255 ∷ 224 ∷ 0 ∷ 16 ∷ (codes "JFIF\0"
          ++ (1 ∷ 2 ∷ 0 ∷ 0 ∷ 1 ∷ 0 ∷ 1 ∷ 0 ∷ 0 ∷ 255 ∷ 218 ∷ 0 ∷ 2 ∷ 7 ∷ 255 ∷ 217 ∷ []));
      ended = Whole;
    })
unfolding filtered stream_piece
trimmed_segments = refl

-- Adobe's segment loses what follows its fields
trimmed_adobe : rewritten Metadata None
    (255 ∷ 216 ∷ 255 ∷ 238 ∷ 0 ∷ 15 ∷ (codes "Adobe"
    ++ (0 ∷ 100 ∷ 0 ∷ 0 ∷ 0 ∷ 0 ∷ 1 ∷ 8 ∷ 255 ∷ 217 ∷ [])))
    ≡ Ok (record {
      bytes = 255 ∷ 216 ∷ 255 ∷ 238 ∷ 0 ∷ 14 ∷ (codes "Adobe"
          ++ (0 ∷ 100 ∷ 0 ∷ 0 ∷ 0 ∷ 0 ∷ 1 ∷ 255 ∷ 217 ∷ []));
      ended = Whole;
    })
unfolding filtered stream_piece
trimmed_adobe = refl

-- the start of another image, and a length that does not count itself
soi_again : rewritten Metadata None (255 ∷ 216 ∷ 255 ∷ 216 ∷ 255 ∷ 217 ∷ []) ≡ Err unexpected_soi
unfolding filtered stream_piece
soi_again = refl

short_length : rewritten Exif None (255 ∷ 216 ∷ 255 ∷ 224 ∷ 0 ∷ 1 ∷ 255 ∷ 217 ∷ [])
    ≡ Err invalid_length
unfolding filtered stream_piece
short_length = refl

-- a file that ends in a segment: it is left out, and new data are at the end
cut : rewritten Exif (Some (codes "ab")) (255 ∷ 216 ∷ 255 ∷ 224 ∷ 0 ∷ 9 ∷ 1 ∷ [])
    ≡ Ok (record { bytes = 255 ∷ 216 ∷ exif_segment (codes "ab"); ended = Cut })
unfolding filtered stream_piece
cut = refl

-- one that ends in its scan
cut_in_scan : rewritten Metadata None (255 ∷ 216 ∷ 255 ∷ 218 ∷ 0 ∷ 2 ∷ 7 ∷ [])
    ≡ Ok (record { bytes = 255 ∷ 216 ∷ 255 ∷ 218 ∷ 0 ∷ 2 ∷ 7 ∷ []; ended = Cut })
unfolding filtered stream_piece
cut_in_scan = refl

-- no second marker behind the first one; and files of two bytes, of one, and of another format
no_second_marker : rewritten Exif None (255 ∷ 216 ∷ 5 ∷ 255 ∷ 217 ∷ [])
    ≡ Ok (record { bytes = 255 ∷ 216 ∷ 5 ∷ 255 ∷ 217 ∷ []; ended = Whole })
unfolding filtered stream_piece
no_second_marker = refl

two_bytes : rewritten Exif None (255 ∷ 216 ∷ []) ≡ Ok (record { bytes = 255 ∷ 216 ∷ []; ended = Cut })
unfolding filtered stream_piece
two_bytes = refl

one_byte : rewritten Exif None (255 ∷ []) ≡ Err broken_jpeg
one_byte = refl

other_format : rewritten Exif None (codes "GIF89a") ≡ Err not_jpeg
other_format = refl
