-- Worked examples: pieces of pictures, by bytes written by hand.
use Rattle.std.specs.Prelude.{◌≡◌, refl, ℕ, true, false, List, [], ◌∷◌, ◌++◌, codes, replicate, Some, None}
use Rattle.exif_inventory.specs.JpegPieces.{between_piece, stream_piece}
use Rattle.exif_inventory.specs.JxlPieces.{box_piece}
use Rattle.exif_inventory.specs.BoxHeaders.{box_header, head_of}
use Rattle.exif_inventory.specs.PngPieces.{png_piece}
use Rattle.exif_inventory.specs.Walks.{walked}
use Rattle.exif_inventory.specs.WebpPieces.{chunk_piece, frame_piece}
use Rattle.exif_inventory.specs.declared.kind.Kind.{Kind}
use Rattle.exif_inventory.specs.declared.kind.Kind.TheVariants as kind
use Rattle.exif_inventory.specs.declared.part.Part.{Part}
use Rattle.exif_lengths.specs.Index.{index_fits}
use Rattle.exif_lengths.specs.Jpeg.{segment_fits}
use Rattle.exif_lengths.specs.Jxl.{content_fits}
use Rattle.exif_lengths.specs.Pictures.{pictures_fit}
use Rattle.exif_lengths.specs.Png.{chunk_fits}
use Rattle.exif_lengths.specs.Tables.{huffman_fits, quantization_fits}
use Rattle.exif_lengths.specs.Walks.{measured_inventory, split}
use Rattle.exif_lengths.specs.Webp as webp

-- so many bytes
abbrev zeros : ℕ → List ℕ
zeros n = replicate n 0

-- a part of the first picture
abbrev whole : Kind → ℕ → ℕ → Part
whole k at len =
    record { kind = k; picture = 0; offset = at; len = len; data_offset = at; data_len = len }

-- ---- PNG

header_fits : chunk_fits 0 (codes "IHDR") 13 ≡ true
header_fits = refl

long_header : chunk_fits 0 (codes "IHDR") 14 ≡ false
long_header = refl

palette_fits : chunk_fits 3 (codes "PLTE") 768 ≡ true
palette_fits = refl

part_of_entry : chunk_fits 3 (codes "PLTE") 7 ≡ false
part_of_entry = refl

too_many_entries : chunk_fits 3 (codes "PLTE") 771 ≡ false
too_many_entries = refl

data_fit : chunk_fits 2 (codes "IDAT") 1000 ≡ true
data_fit = refl

end_with_text : chunk_fits 2 (codes "IEND") 7 ≡ false
end_with_text = refl

transparent_grey : chunk_fits 0 (codes "tRNS") 2 ≡ true
transparent_grey = refl

transparent_entries : chunk_fits 3 (codes "tRNS") 256 ≡ true
transparent_entries = refl

grey_with_entries : chunk_fits 0 (codes "tRNS") 9 ≡ false
grey_with_entries = refl

twice_transparent : chunk_fits 6 (codes "tRNS") 6 ≡ false
twice_transparent = refl

gamma_fits : chunk_fits 0 (codes "gAMA") 4 ≡ true
gamma_fits = refl

long_gamma : chunk_fits 0 (codes "gAMA") 11 ≡ false
long_gamma = refl

bits_of_palette : chunk_fits 3 (codes "sBIT") 3 ≡ true
bits_of_palette = refl

bits_of_grey : chunk_fits 0 (codes "sBIT") 3 ≡ false
bits_of_grey = refl

background_of_color : chunk_fits 2 (codes "bKGD") 6 ≡ true
background_of_color = refl

background_of_grey : chunk_fits 4 (codes "bKGD") 6 ≡ false
background_of_grey = refl

odd_histogram : chunk_fits 3 (codes "hIST") 9 ≡ false
odd_histogram = refl

frame_control : chunk_fits 2 (codes "fcTL") 26 ≡ true
frame_control = refl

long_frame_control : chunk_fits 2 (codes "fcTL") 33 ≡ false
long_frame_control = refl

suggested_palette : chunk_fits 2 (codes "sPLT") 8 ≡ false
suggested_palette = refl

-- a picture of grey: a header, a gamma with two bytes more, transparency, data and an end; the
-- checksums are not looked at
abbrev png : List ℕ
png =
    0x89 ∷ codes "PNG" ++ 13 ∷ 10 ∷ 26 ∷ 10
    ∷ 0 ∷ 0 ∷ 0 ∷ 13 ∷ codes "IHDR"
    ++ 0 ∷ 0 ∷ 0 ∷ 1 ∷ 0 ∷ 0 ∷ 0 ∷ 1 ∷ 8 ∷ 0 ∷ 0 ∷ 0 ∷ 0 ∷ 9 ∷ 9 ∷ 9 ∷ 9
    ∷ 0 ∷ 0 ∷ 0 ∷ 6 ∷ codes "gAMA" ++ 0 ∷ 0 ∷ 0xb1 ∷ 0x8f ∷ 0x68 ∷ 0x69 ∷ 9 ∷ 9 ∷ 9 ∷ 9
    ∷ 0 ∷ 0 ∷ 0 ∷ 2 ∷ codes "tRNS" ++ 0 ∷ 7 ∷ 9 ∷ 9 ∷ 9 ∷ 9
    ∷ 0 ∷ 0 ∷ 0 ∷ 1 ∷ codes "IDAT" ++ 5 ∷ 9 ∷ 9 ∷ 9 ∷ 9
    ∷ 0 ∷ 0 ∷ 0 ∷ 0 ∷ codes "IEND" ++ 9 ∷ 9 ∷ 9 ∷ 9 ∷ []

parts_of_png : measured_inventory png
    ≡ Some (whole kind.Picture 0 33 ∷ whole kind.Unknown 33 18 ∷ whole kind.Picture 51 39 ∷ [])
unfolding walked split png_piece
parts_of_png = refl

-- ---- JPEG

-- a table of bytes, and one of numbers of two bytes; a byte behind it; and a precision that is none
two_tables : quantization_fits (0 ∷ zeros 64 ++ 0x11 ∷ zeros 128) ≡ true
two_tables = refl

table_and_text : quantization_fits (1 ∷ zeros 64 ++ 0x5a ∷ []) ≡ false
table_and_text = refl

short_table : quantization_fits (1 ∷ zeros 63) ≡ false
short_table = refl

-- a table with one code of one bit and two of two bits; and with a byte more
abbrev huffman : List ℕ
huffman = 0 ∷ 1 ∷ 2 ∷ zeros 14 ++ 5 ∷ 6 ∷ 7 ∷ []

huffman_table : huffman_fits (huffman ++ huffman) ≡ true
huffman_table = refl

huffman_and_text : huffman_fits (huffman ++ 0x5a ∷ []) ≡ false
huffman_and_text = refl

-- a baseline frame of three components, and with two bytes more
abbrev frame : List ℕ
frame = 8 ∷ 0 ∷ 1 ∷ 0 ∷ 1 ∷ 3 ∷ 1 ∷ 0x11 ∷ 0 ∷ 2 ∷ 0x11 ∷ 1 ∷ 3 ∷ 0x11 ∷ 1 ∷ []

frame_fits : segment_fits 0xc0 frame ≡ true
frame_fits = refl

frame_and_text : segment_fits 0xc0 (frame ++ codes "ab") ≡ false
frame_and_text = refl

-- the frame of JPEG-LS
lossless_frame : segment_fits 0xf7 frame ≡ true
lossless_frame = refl

-- the header of a scan with one component
scan_header : segment_fits 0xda (1 ∷ 1 ∷ 0 ∷ 0 ∷ 63 ∷ 0 ∷ []) ≡ true
scan_header = refl

long_scan_header : segment_fits 0xda (1 ∷ 1 ∷ 0 ∷ 0 ∷ 63 ∷ 0 ∷ 7 ∷ []) ≡ false
long_scan_header = refl

conditioning : segment_fits 0xcc (0 ∷ 0x10 ∷ []) ≡ true
conditioning = refl

odd_conditioning : segment_fits 0xcc (0 ∷ 0x10 ∷ 1 ∷ []) ≡ false
odd_conditioning = refl

restart_interval : segment_fits 0xdd (0 ∷ 4 ∷ []) ≡ true
restart_interval = refl

long_interval : segment_fits 0xdd (0 ∷ 4 ∷ 1 ∷ []) ≡ false
long_interval = refl

number_of_lines : segment_fits 0xdc (0 ∷ 1 ∷ []) ≡ true
number_of_lines = refl

expansion : segment_fits 0xdf (0x11 ∷ []) ≡ true
expansion = refl

long_expansion : segment_fits 0xdf (0x11 ∷ 1 ∷ []) ≡ false
long_expansion = refl

-- parameters of JPEG-LS, and with a byte more; a table of two entries of three bytes, and with a
-- byte more; a size in two numbers of three bytes
parameters : segment_fits 0xf8 (1 ∷ 0 ∷ 255 ∷ 0 ∷ 3 ∷ 0 ∷ 7 ∷ 0 ∷ 21 ∷ 0 ∷ 64 ∷ []) ≡ true
parameters = refl

long_parameters :
    segment_fits 0xf8 (1 ∷ 0 ∷ 255 ∷ 0 ∷ 3 ∷ 0 ∷ 7 ∷ 0 ∷ 21 ∷ 0 ∷ 64 ∷ 1 ∷ []) ≡ false
long_parameters = refl

mapping : segment_fits 0xf8 (2 ∷ 1 ∷ 3 ∷ 1 ∷ 2 ∷ 3 ∷ 4 ∷ 5 ∷ 6 ∷ []) ≡ true
mapping = refl

part_of_mapping : segment_fits 0xf8 (2 ∷ 1 ∷ 3 ∷ 1 ∷ 2 ∷ 3 ∷ 4 ∷ []) ≡ false
part_of_mapping = refl

oversize : segment_fits 0xf8 (4 ∷ 3 ∷ 1 ∷ 0 ∷ 0 ∷ 1 ∷ 0 ∷ 0 ∷ []) ≡ true
oversize = refl

-- a marker of an extension (f0), and one that JPEG keeps for itself (c8)
extension : segment_fits 0xf0 [] ≡ false
extension = refl

kept_for_extensions : segment_fits 0xc8 [] ≡ false
kept_for_extensions = refl

-- a stream: a scan with a stuffed byte and a restart marker, an interval, bytes between segments and
-- a restart marker there, another scan, and the end behind an ff that fills
abbrev jpeg : List ℕ
jpeg =
    0xff ∷ 0xd8
    ∷ 0xff ∷ 0xda ∷ 0 ∷ 8 ∷ 1 ∷ 1 ∷ 0 ∷ 0 ∷ 63 ∷ 0 ∷ 7 ∷ 0xff ∷ 0 ∷ 8 ∷ 0xff ∷ 0xd0 ∷ 9
    ∷ 0xff ∷ 0xdd ∷ 0 ∷ 4 ∷ 0 ∷ 0 ∷ 0x68 ∷ 0x69 ∷ 0xff ∷ 0xd1
    ∷ 0xff ∷ 0xda ∷ 0 ∷ 8 ∷ 1 ∷ 1 ∷ 0 ∷ 0 ∷ 63 ∷ 0 ∷ 7 ∷ 0xff ∷ 0xff ∷ 0xd9 ∷ []

parts_of_jpeg : measured_inventory jpeg
    ≡ Some (whole kind.Picture 0 25 ∷ whole kind.Unknown 25 2 ∷ whole kind.Unknown 27 2
    ∷ whole kind.Picture 29 14 ∷ [])
unfolding walked split stream_piece between_piece
parts_of_jpeg = refl

-- bytes behind a comment that stands in a scan
abbrev jpeg_behind_comment : List ℕ
jpeg_behind_comment =
    0xff ∷ 0xd8
    ∷ 0xff ∷ 0xda ∷ 0 ∷ 8 ∷ 1 ∷ 1 ∷ 0 ∷ 0 ∷ 63 ∷ 0 ∷ 7
    ∷ 0xff ∷ 0xfe ∷ 0 ∷ 3 ∷ 0x68 ∷ 0x69 ∷ 0x69 ∷ 0xff ∷ 0xd9 ∷ []

abbrev comment : Part
comment = record {
  kind = kind.Comment;
  picture = 0;
  offset = 13;
  len = 5;
  data_offset = 17;
  data_len = 1;
}

parts_behind_comment : measured_inventory jpeg_behind_comment
    ≡ Some (whole kind.Picture 0 13 ∷ comment ∷ whole kind.Unknown 18 2 ∷ whole kind.Picture 20 2 ∷ [])
unfolding walked split stream_piece between_piece
parts_behind_comment = refl

-- ---- JPEG XL

level : content_fits (codes "jxll") (10 ∷ []) ≡ true
level = refl

long_level : content_fits (codes "jxll") (10 ∷ 0x5a ∷ []) ≡ false
long_level = refl

two_brands : content_fits (codes "ftyp") (codes "jxl \0\0\0\0jxl text") ≡ false
two_brands = refl

-- an index of two frames, and with a byte more; of one, whose number has two bytes; and one that
-- ends within a number
index_of_two : index_fits (2 ∷ zeros 8 ++ 1 ∷ 2 ∷ 0x83 ∷ 3 ∷ 4 ∷ 5 ∷ 6 ∷ []) ≡ true
index_of_two = refl

index_and_text : index_fits (2 ∷ zeros 8 ++ 1 ∷ 2 ∷ 3 ∷ 4 ∷ 5 ∷ 6 ∷ 0x5a ∷ []) ≡ false
index_and_text = refl

long_index : index_fits (0x81 ∷ 0 ∷ zeros 8 ++ 1 ∷ 2 ∷ 3 ∷ []) ≡ true
long_index = refl

cut_index : index_fits (1 ∷ zeros 8 ++ 1 ∷ 2 ∷ 3 ∷ 0x84 ∷ []) ≡ false
cut_index = refl

-- a file with a level that has a text behind it, and a codestream to the end
abbrev jxl : List ℕ
jxl =
    0 ∷ 0 ∷ 0 ∷ 12 ∷ codes "JXL " ++ 13 ∷ 10 ∷ 0x87 ∷ 10
    ∷ 0 ∷ 0 ∷ 0 ∷ 20 ∷ codes "ftypjxl \0\0\0\0jxl "
    ++ 0 ∷ 0 ∷ 0 ∷ 11 ∷ codes "jxll" ++ 5 ∷ 0x68 ∷ 0x69
    ∷ 0 ∷ 0 ∷ 0 ∷ 0 ∷ codes "jxlc" ++ 0xff ∷ 0x0a ∷ []

parts_of_jxl : measured_inventory jxl
    ≡ Some (whole kind.Picture 0 32 ∷ whole kind.Unknown 32 11 ∷ whole kind.Picture 43 10 ∷ [])
unfolding walked split box_piece head_of box_header
parts_of_jxl = refl

-- ---- WebP

features : webp.chunk_fits (codes "VP8X") 10 ≡ true
features = refl

long_features : webp.chunk_fits (codes "VP8X") 200 ≡ false
long_features = refl

-- features with two bytes more, an animation, and a frame whose picture has a byte and its pad
abbrev animated : List ℕ
animated =
    codes "RIFF" ++ 72 ∷ 0 ∷ 0 ∷ 0 ∷ codes "WEBP"
    ++ codes "VP8X" ++ 12 ∷ 0 ∷ 0 ∷ 0 ∷ zeros 10 ++ 0x68 ∷ 0x69
    ∷ codes "ANIM" ++ 6 ∷ 0 ∷ 0 ∷ 0 ∷ zeros 6
    ++ codes "ANMF" ++ 26 ∷ 0 ∷ 0 ∷ 0 ∷ zeros 16 ++ codes "VP8 " ++ 1 ∷ 0 ∷ 0 ∷ 0 ∷ 7 ∷ 0 ∷ []

parts_of_animated : measured_inventory animated
    ≡ Some (whole kind.Picture 0 12 ∷ whole kind.Unknown 12 20 ∷ whole kind.Picture 32 48 ∷ [])
unfolding walked split chunk_piece frame_piece
parts_of_animated = refl

-- ---- a file of another format
of_none : measured_inventory (codes "II*\0") ≡ None
of_none = refl

-- ---- the index of pictures

-- an index of two pictures: a version, their count, and two entries of 16 bytes
abbrev two_pictures : List ℕ
two_pictures =
    codes "MM\0*\0\0\0\u{8}\0\u{3}" ++ 0xB0 ∷ codes "\0\0\u{7}\0\0\0\u{4}0100" ++ 0xB0
    ∷ codes "\u{1}\0\u{4}\0\0\0\u{1}\0\0\0\u{2}" ++ 0xB0 ∷ codes "\u{2}\0\u{7}\0\0\0 \0\0\02\0\0\0\0"
    ++ zeros 32

index_of_pictures : pictures_fit two_pictures ≡ true
index_of_pictures = refl

-- with a padding, and with a text
padded_index : pictures_fit (two_pictures ++ zeros 5) ≡ true
padded_index = refl

index_with_text : pictures_fit (two_pictures ++ codes "Basel") ≡ false
index_with_text = refl

-- no entries and a text, and no index
text_index : pictures_fit (codes "MM\0*\0\0\0\u{8}\0\0\0\0\0\0Basel") ≡ false
text_index = refl

no_index : pictures_fit (codes "Basel") ≡ false
no_index = refl
