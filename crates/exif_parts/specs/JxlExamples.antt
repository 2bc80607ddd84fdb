-- Small JPEG XL files written again, worked by hand (ISO/IEC 18181-2, clause 9).
use Rattle.std.specs.Prelude.{◌≡◌, ℕ, List, refl, [], ◌∷◌, ◌++◌, codes, None, Some, Ok, Err}
use Rattle.exif_inventory.specs.BoxHeaders.{box_header, head_of}
use Rattle.exif_inventory.specs.JxlPieces.{box_piece}
use Rattle.exif_segments.specs.declared.remove.Remove.TheVariants.{Exif, Metadata}
use Rattle.exif_parts.specs.Jxl.{boxes_filtered, broken_jxl, jxl_rewritten, no_container, not_jxl}
use Rattle.exif_parts.specs.declared.rewritten.Ended.TheVariants.{Whole, Cut}

-- the first box and that of the file's type, whose brand and compatible brand are `jxl `
abbrev signature : List ℕ
signature = codes "\0\0\0\u{c}JXL \r\n" ++ (135 ∷ 10 ∷ [])

abbrev typed : List ℕ
typed = signature ++ codes "\0\0\0\u{14}ftypjxl \0\0\0\0jxl "

-- "ab" in place of "old", whose box is behind the picture and has an offset of one byte
placed : jxl_rewritten Exif (Some (codes "ab"))
    (typed ++ codes "\0\0\0\njxlcim\0\0\0\u{10}Exif\0\0\0\u{1}xold\0\0\0\txml s")
    ≡ Ok (record {
      bytes = typed ++ codes "\0\0\0\u{e}Exif\0\0\0\0ab\0\0\0\njxlcim\0\0\0\txml s";
      ended = Whole;
    })
unfolding boxes_filtered box_piece head_of box_header
placed = refl

-- where no box has the file's type, new data are behind the first box; a codestream that goes to the
-- end of the file stays the last box
untyped : jxl_rewritten Exif (Some (codes "ab")) (signature ++ codes "\0\0\0\0jxlcimage")
    ≡ Ok (record {
      bytes = signature ++ codes "\0\0\0\u{e}Exif\0\0\0\0ab\0\0\0\0jxlcimage";
      ended = Whole;
    })
unfolding boxes_filtered box_piece head_of box_header
untyped = refl

-- and before a box of that type which goes to the end of the file
last_type : jxl_rewritten Exif (Some (codes "ab")) (signature ++ codes "\0\0\0\0ftypjxl ")
    ≡ Ok (record {
      bytes = signature ++ codes "\0\0\0\u{e}Exif\0\0\0\0ab\0\0\0\0ftypjxl ";
      ended = Whole;
    })
unfolding boxes_filtered box_piece head_of box_header
last_type = refl

-- all metadata go: Exif data whose box goes to the end of the file, too, compressed boxes, XMP, what
-- rebuilds a JPEG file, and boxes that are not known
bare : jxl_rewritten Metadata None
    (typed ++ codes "\0\0\0\njbrdxx\0\0\0\rbrobxml s\0\0\0\txml s\0\0\0\tjxlls\0\0\0\njxlcim\0\0\0\twhats\0\0\0\0Exif\0\0\0\0ab")
    ≡ Ok (record { bytes = typed ++ codes "\0\0\0\tjxlls\0\0\0\njxlcim"; ended = Whole })
unfolding boxes_filtered box_piece head_of box_header
bare = refl

-- without its Exif data a file keeps what rebuilds a JPEG file, and boxes that are compressed; but
-- not one with compressed Exif data, whose size may have eight bytes, and not a box `Exif` that is
-- too short for the offset which it says
unknown_boxes : jxl_rewritten Exif None
    (typed ++ codes "\0\0\0\njbrdxx\0\0\0\rbrobExifs\0\0\0\rbrobxml s\0\0\0\rExif\0\0\0\to"
    ++ codes "\0\0\0\u{1}brob\0\0\0\0\0\0\0\u{15}Exifs\0\0\0\njxlcim")
    ≡ Ok (record {
      bytes = typed ++ codes "\0\0\0\njbrdxx\0\0\0\rbrobxml s\0\0\0\njxlcim";
      ended = Whole;
    })
unfolding boxes_filtered box_piece head_of box_header
unknown_boxes = refl

-- a size of eight bytes
large : jxl_rewritten Exif None
    (typed ++ codes "\0\0\0\u{1}Exif\0\0\0\0\0\0\0\u{16}\0\0\0\0ab\0\0\0\u{1}jxlc\0\0\0\0\0\0\0\u{12}im")
    ≡ Ok (record {
      bytes = typed ++ codes "\0\0\0\u{1}jxlc\0\0\0\0\0\0\0\u{12}im";
      ended = Whole;
    })
unfolding boxes_filtered box_piece head_of box_header
large = refl

-- a picture that is cut off stays as far as it goes; other boxes that are cut off do not
cut_picture : jxl_rewritten Exif (Some (codes "ab")) (typed ++ codes "\0\0\0\u{b}jxlcim")
    ≡ Ok (record {
      bytes = typed ++ codes "\0\0\0\u{e}Exif\0\0\0\0ab\0\0\0\u{b}jxlcim";
      ended = Cut;
    })
unfolding boxes_filtered box_piece head_of box_header
cut_picture = refl

cut_packet : jxl_rewritten Exif None (typed ++ codes "\0\0\0\njxlcim\0\0\0\nxml s")
    ≡ Ok (record { bytes = typed ++ codes "\0\0\0\njxlcim"; ended = Cut })
unfolding boxes_filtered box_piece head_of box_header
cut_packet = refl

cut_header : jxl_rewritten Exif None (typed ++ codes "\0\0\0\njxlcim\0\0\0")
    ≡ Ok (record { bytes = typed ++ codes "\0\0\0\njxlcim"; ended = Cut })
unfolding boxes_filtered box_piece head_of box_header
cut_header = refl

-- a codestream alone, a file that is shorter than its first box, and one of another format
codestream : jxl_rewritten Exif None (255 ∷ 10 ∷ 1 ∷ 2 ∷ []) ≡ Err no_container
codestream = refl

short : jxl_rewritten Exif None (codes "\0\0\0\u{c}JXL ") ≡ Err broken_jxl
short = refl

other_format : jxl_rewritten Exif None (codes "GIF89aGIF89a") ≡ Err not_jxl
other_format = refl
