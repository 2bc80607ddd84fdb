-- Worked examples: the parts of files, by bytes written by hand.
use Rattle.std.specs.Prelude.{◌≡◌, refl, ℕ, List, [], ◌∷◌, ◌++◌, codes, Some, None}
use Rattle.exif_inventory.specs.BoxHeaders.{box_header, head_of}
use Rattle.exif_inventory.specs.Crc.{crc32}
use Rattle.exif_inventory.specs.JpegPieces.{between_piece, stream_piece}
use Rattle.exif_inventory.specs.JxlPieces.{box_piece}
use Rattle.exif_inventory.specs.PngPieces.{png_piece}
use Rattle.exif_inventory.specs.Resources.{resource_at, resource_piece}
use Rattle.exif_inventory.specs.Walks.{inventory, walked}
use Rattle.exif_inventory.specs.WebpPieces.{chunk_piece, frame_piece}
use Rattle.exif_inventory.specs.declared.kind.Kind.{Kind}
use Rattle.exif_inventory.specs.declared.kind.Kind.TheVariants as kind
use Rattle.exif_inventory.specs.declared.part.Part.{Part}

-- a part of the n-th picture, from an offset on, with its data
abbrev part : Kind → ℕ → ℕ → ℕ → ℕ → ℕ → Part
part k n offset len from data_len = record {
  kind = k;
  picture = n;
  offset = offset;
  len = len;
  data_offset = from;
  data_len = data_len;
}

-- a picture with Exif data, a comment and a scan; two bytes after it, and another picture
abbrev two_pictures : List ℕ
two_pictures =
    0xff ∷ 0xd8
    ∷ 0xff ∷ 0xe1 ∷ 0 ∷ 12 ∷ codes "Exif\0\0" ++ 1 ∷ 2 ∷ 3 ∷ 4
    ∷ 0xff ∷ 0xfe ∷ 0 ∷ 4 ∷ 0x68 ∷ 0x69
    ∷ 0xff ∷ 0xda ∷ 0 ∷ 2 ∷ 7 ∷ 0xff ∷ 0 ∷ 8 ∷ 0xff ∷ 0xd9
    ∷ 1 ∷ 2
    ∷ 0xff ∷ 0xd8 ∷ 0xff ∷ 0xd9 ∷ []

parts_of_two : inventory two_pictures
    ≡ Some (part kind.Picture 0 0 2 0 2 ∷ part kind.Exif 0 2 14 12 4
    ∷ part kind.Comment 0 16 6 20 2 ∷ part kind.Picture 0 22 10 22 10
    ∷ part kind.Trailer 1 32 2 32 2 ∷ part kind.Picture 1 34 4 34 4 ∷ [])
unfolding walked stream_piece between_piece
parts_of_two = refl

-- Photoshop's segment, with IPTC data of three bytes and their padding, and then a cut segment
abbrev with_resource : List ℕ
with_resource =
    0xff ∷ 0xd8
    ∷ 0xff ∷ 0xed ∷ 0 ∷ 32 ∷ codes "Photoshop 3.0\0"
    ++ codes "8BIM" ++ 4 ∷ 4 ∷ 0 ∷ 0 ∷ 0 ∷ 0 ∷ 0 ∷ 3 ∷ 0x1c ∷ 2 ∷ 0 ∷ 0
    ∷ 0xff ∷ 0xdb ∷ 0 ∷ 9 ∷ []

parts_of_resource : inventory with_resource
    ≡ Some (part kind.Picture 0 0 2 0 2 ∷ part kind.Photoshop 0 2 18 20 0
    ∷ part kind.Iptc 0 20 16 32 3 ∷ part kind.Broken 0 36 4 36 4 ∷ [])
unfolding walked stream_piece between_piece resource_piece resource_at
parts_of_resource = refl

-- resources with Exif data of two bytes and an XMP packet of one, a resolution, a caption, and a
-- copyright flag that has a name
abbrev resources : List ℕ
resources =
    0xff ∷ 0xd8
    ∷ 0xff ∷ 0xed ∷ 0 ∷ 100 ∷ codes "Photoshop 3.0\0"
    ++ codes "8BIM" ++ 4 ∷ 0x22 ∷ 0 ∷ 0 ∷ 0 ∷ 0 ∷ 0 ∷ 2 ∷ 1 ∷ 2
    ∷ codes "8BIM" ++ 4 ∷ 0x24 ∷ 0 ∷ 0 ∷ 0 ∷ 0 ∷ 0 ∷ 1 ∷ 3 ∷ 0
    ∷ codes "8BIM" ++ 3 ∷ 0xed ∷ 0 ∷ 0 ∷ 0 ∷ 0 ∷ 0 ∷ 16
    ∷ 0 ∷ 72 ∷ 0 ∷ 0 ∷ 0 ∷ 1 ∷ 0 ∷ 1 ∷ 0 ∷ 72 ∷ 0 ∷ 0 ∷ 0 ∷ 1 ∷ 0 ∷ 1
    ∷ codes "8BIM" ++ 3 ∷ 0xf0 ∷ 0 ∷ 0 ∷ 0 ∷ 0 ∷ 0 ∷ 2 ∷ 1 ∷ 0x62
    ∷ codes "8BIM" ++ 4 ∷ 0x0a ∷ 1 ∷ 0x62 ∷ 0 ∷ 0 ∷ 0 ∷ 1 ∷ 1 ∷ 0 ∷ []

parts_of_resources : inventory resources
    ≡ Some (part kind.Picture 0 0 2 0 2 ∷ part kind.Photoshop 0 2 18 20 0
    ∷ part kind.PhotoshopExif 0 20 14 32 2 ∷ part kind.PhotoshopXmp 0 34 14 46 1
    ∷ part kind.Photoshop 0 48 28 60 16 ∷ part kind.PhotoshopOther 0 76 14 88 2
    ∷ part kind.PhotoshopOther 0 90 14 96 7 ∷ [])
unfolding walked stream_piece between_piece resource_piece resource_at
parts_of_resources = refl

-- more bytes than the numbers of a resource take: a flag with two
longer_flag : resource_at (codes "8BIM" ++ 4 ∷ 0x0a ∷ 0 ∷ 0 ∷ 0 ∷ 0 ∷ 0 ∷ 2 ∷ 1 ∷ 0x62 ∷ [])
    ≡ record { kind = kind.PhotoshopOther; front = 12; size = 2; len = 14 }
unfolding resource_at
longer_flag = refl

-- a file that goes on without a marker behind its first one, and the frame of JPEG-LS (f7)
abbrev no_second_marker : List ℕ
no_second_marker =
    0xff ∷ 0xd8 ∷ 5 ∷ 0xff ∷ 0xf7 ∷ 0 ∷ 3 ∷ 8 ∷ 0xff ∷ 0xf9 ∷ 0 ∷ 3 ∷ 9 ∷ []

parts_of_no_second : inventory no_second_marker
    ≡ Some (part kind.Picture 0 0 2 0 2 ∷ part kind.Unknown 0 2 1 2 1
    ∷ part kind.Picture 0 3 5 3 5 ∷ part kind.Unknown 0 8 5 8 5 ∷ [])
unfolding walked stream_piece between_piece
parts_of_no_second = refl

-- the first and the last marker of extensions (f0, f8), the last one of an application (ef), and the
-- first and the last of those that are reserved (02, bf, f9, fd)
abbrev rare_markers : List ℕ
rare_markers =
    0xff ∷ 0xd8
    ∷ 0xff ∷ 0xf0 ∷ 0 ∷ 3 ∷ 1 ∷ 0xff ∷ 0xf8 ∷ 0 ∷ 3 ∷ 2 ∷ 0xff ∷ 0xef ∷ 0 ∷ 3 ∷ 3
    ∷ 0xff ∷ 2 ∷ 0 ∷ 3 ∷ 4 ∷ 0xff ∷ 0xbf ∷ 0 ∷ 3 ∷ 5
    ∷ 0xff ∷ 0xf9 ∷ 0 ∷ 3 ∷ 6 ∷ 0xff ∷ 0xfd ∷ 0 ∷ 3 ∷ 7 ∷ []

parts_of_rare : inventory rare_markers
    ≡ Some (part kind.Picture 0 0 12 0 12 ∷ part kind.Unknown 0 12 5 12 5
    ∷ part kind.Unknown 0 17 5 17 5 ∷ part kind.Unknown 0 22 5 22 5
    ∷ part kind.Unknown 0 27 5 27 5 ∷ part kind.Unknown 0 32 5 32 5 ∷ [])
unfolding walked stream_piece between_piece
parts_of_rare = refl

-- files of two bytes and of one
of_two_bytes : inventory (0xff ∷ 0xd8 ∷ []) ≡ Some (part kind.Picture 0 0 2 0 2 ∷ [])
unfolding walked stream_piece between_piece
of_two_bytes = refl

of_one_byte : inventory (0xff ∷ []) ≡ None
of_one_byte = refl

-- a WebP file with Exif data of three bytes, which are padded, and an XMP packet
abbrev webp : List ℕ
webp =
    codes "RIFF" ++ 26 ∷ 0 ∷ 0 ∷ 0 ∷ codes "WEBP"
    ++ codes "EXIF" ++ 3 ∷ 0 ∷ 0 ∷ 0 ∷ 1 ∷ 2 ∷ 3 ∷ 0
    ∷ codes "XMP " ++ 2 ∷ 0 ∷ 0 ∷ 0 ∷ 4 ∷ 5 ∷ []

parts_of_webp : inventory webp
    ≡ Some (part kind.Picture 0 0 12 0 12 ∷ part kind.Exif 0 12 12 20 3
    ∷ part kind.Xmp 0 24 10 32 2 ∷ [])
unfolding walked chunk_piece
parts_of_webp = refl

-- an animation frame with a picture of one byte, which is padded, and then Exif data of two bytes
-- within the frame; one of an odd size; and one that is too short for its fields
abbrev frame_fields : List ℕ
frame_fields = 0 ∷ 0 ∷ 0 ∷ 0 ∷ 0 ∷ 0 ∷ 0 ∷ 0 ∷ 0 ∷ 0 ∷ 0 ∷ 0 ∷ 0 ∷ 0 ∷ 0 ∷ 0 ∷ []

abbrev animated : List ℕ
animated =
    codes "RIFF" ++ 96 ∷ 0 ∷ 0 ∷ 0 ∷ codes "WEBP"
    ++ codes "ANMF" ++ 36 ∷ 0 ∷ 0 ∷ 0 ∷ frame_fields
    ++ codes "VP8 " ++ 1 ∷ 0 ∷ 0 ∷ 0 ∷ 7 ∷ 0
    ∷ codes "EXIF" ++ 2 ∷ 0 ∷ 0 ∷ 0 ∷ 8 ∷ 9
    ∷ codes "ANMF" ++ 25 ∷ 0 ∷ 0 ∷ 0 ∷ frame_fields
    ++ codes "ALPH" ++ 2 ∷ 0 ∷ 0 ∷ 0 ∷ 7 ∷ 0
    ∷ codes "ANMF" ++ 2 ∷ 0 ∷ 0 ∷ 0 ∷ 5 ∷ 6 ∷ []

parts_of_animated : inventory animated
    ≡ Some (part kind.Picture 0 0 46 0 46 ∷ part kind.Unknown 0 46 10 54 2
    ∷ part kind.Picture 0 56 34 56 34 ∷ part kind.Unknown 0 90 10 98 2 ∷ [])
unfolding walked chunk_piece frame_piece
parts_of_animated = refl

-- a chunk that is longer than its frame
abbrev frame_cut : List ℕ
frame_cut =
    codes "RIFF" ++ 38 ∷ 0 ∷ 0 ∷ 0 ∷ codes "WEBP"
    ++ codes "ANMF" ++ 26 ∷ 0 ∷ 0 ∷ 0 ∷ frame_fields
    ++ codes "VP8 " ++ 3 ∷ 0 ∷ 0 ∷ 0 ∷ 7 ∷ 8 ∷ []

parts_of_frame_cut : inventory frame_cut
    ≡ Some (part kind.Picture 0 0 36 0 36 ∷ part kind.Broken 0 36 10 36 10 ∷ [])
unfolding walked chunk_piece frame_piece
parts_of_frame_cut = refl

-- the CRC of `IEND`, as each PNG file has it, and the check value of this CRC in catalogues
crc_of_end : crc32 (codes "IEND") ≡ 0xAE426082
crc_of_end = refl

crc_of_digits : crc32 (codes "123456789") ≡ 0xCBF43926
crc_of_digits = refl

-- the signature of a PNG file
abbrev png_signature : List ℕ
png_signature = 0x89 ∷ codes "PNG" ++ 13 ∷ 10 ∷ 26 ∷ 10 ∷ []

-- a PNG file: a palette entry, Exif data of two bytes, an XMP packet of two bytes behind a
-- language, a comment, the end, and two bytes behind it
abbrev png : List ℕ
png =
    png_signature
    ++ 0 ∷ 0 ∷ 0 ∷ 3 ∷ codes "PLTE" ++ 1 ∷ 2 ∷ 3 ∷ 9 ∷ 9 ∷ 9 ∷ 9
    ∷ 0 ∷ 0 ∷ 0 ∷ 2 ∷ codes "eXIf" ++ 4 ∷ 5 ∷ 9 ∷ 9 ∷ 9 ∷ 9
    ∷ 0 ∷ 0 ∷ 0 ∷ 26 ∷ codes "iTXtXML:com.adobe.xmp\0\0\0en\0\0<>" ++ 9 ∷ 9 ∷ 9 ∷ 9
    ∷ 0 ∷ 0 ∷ 0 ∷ 4 ∷ codes "tEXta\0bc" ++ 9 ∷ 9 ∷ 9 ∷ 9
    ∷ 0 ∷ 0 ∷ 0 ∷ 0 ∷ codes "IEND" ++ 9 ∷ 9 ∷ 9 ∷ 9
    ∷ 7 ∷ 8 ∷ []

parts_of_png : inventory png
    ≡ Some (part kind.Picture 0 0 23 0 23 ∷ part kind.Exif 0 23 14 31 2
    ∷ part kind.Xmp 0 37 38 69 2 ∷ part kind.Comment 0 75 16 83 4
    ∷ part kind.Picture 0 91 12 91 12 ∷ part kind.Trailer 0 103 2 103 2 ∷ [])
unfolding walked png_piece
parts_of_png = refl

-- international text that is no packet, one whose packet is compressed, and one without its zeros;
-- and then a chunk that is cut off
abbrev png_texts : List ℕ
png_texts =
    png_signature
    ++ 0 ∷ 0 ∷ 0 ∷ 4 ∷ codes "iTXta\0\0b" ++ 9 ∷ 9 ∷ 9 ∷ 9
    ∷ 0 ∷ 0 ∷ 0 ∷ 23 ∷ codes "iTXtXML:com.adobe.xmp\0" ++ 1 ∷ 0 ∷ 0 ∷ 0 ∷ 3
    ∷ 9 ∷ 9 ∷ 9 ∷ 9
    ∷ 0 ∷ 0 ∷ 0 ∷ 22 ∷ codes "iTXtXML:com.adobe.xmp\0\0\0\0b" ++ 9 ∷ 9 ∷ 9 ∷ 9
    ∷ 0 ∷ 0 ∷ 0 ∷ 9 ∷ codes "IDAT" ++ 1 ∷ 2 ∷ 3 ∷ 4 ∷ []

parts_of_png_texts : inventory png_texts
    ≡ Some (part kind.Picture 0 0 8 0 8 ∷ part kind.Comment 0 8 16 16 4
    ∷ part kind.Comment 0 24 35 32 23 ∷ part kind.Comment 0 59 34 67 22
    ∷ part kind.Broken 0 93 12 93 12 ∷ [])
unfolding walked png_piece
parts_of_png_texts = refl

-- a JPEG XL file: its first box, Exif data behind an offset of 1, an XMP packet, compressed data, a
-- box whose size has eight bytes, and one that goes to the end
abbrev jxl : List ℕ
jxl =
    0 ∷ 0 ∷ 0 ∷ 12 ∷ codes "JXL " ++ 13 ∷ 10 ∷ 0x87 ∷ 10
    ∷ 0 ∷ 0 ∷ 0 ∷ 15 ∷ codes "Exif" ++ 0 ∷ 0 ∷ 0 ∷ 1 ∷ 0 ∷ 4 ∷ 5
    ∷ 0 ∷ 0 ∷ 0 ∷ 10 ∷ codes "xml <>" ++ 0 ∷ 0 ∷ 0 ∷ 13 ∷ codes "brobxml " ++ 3
    ∷ 0 ∷ 0 ∷ 0 ∷ 1 ∷ codes "jumb" ++ 0 ∷ 0 ∷ 0 ∷ 0 ∷ 0 ∷ 0 ∷ 0 ∷ 17 ∷ 6
    ∷ 0 ∷ 0 ∷ 0 ∷ 0 ∷ codes "jxlc" ++ 0xff ∷ 0x0a ∷ []

parts_of_jxl : inventory jxl
    ≡ Some (part kind.Picture 0 0 12 0 12 ∷ part kind.Exif 0 12 15 25 2
    ∷ part kind.Xmp 0 27 10 35 2 ∷ part kind.Unknown 0 37 13 45 5
    ∷ part kind.ContentCredentials 0 50 17 66 1 ∷ part kind.Picture 0 67 10 67 10 ∷ [])
unfolding walked box_piece head_of box_header
parts_of_jxl = refl

-- Exif data whose offset is behind them, and a box that is cut off
abbrev jxl_cut : List ℕ
jxl_cut =
    0 ∷ 0 ∷ 0 ∷ 12 ∷ codes "JXL " ++ 13 ∷ 10 ∷ 0x87 ∷ 10
    ∷ 0 ∷ 0 ∷ 0 ∷ 13 ∷ codes "Exif" ++ 0 ∷ 0 ∷ 0 ∷ 2 ∷ 4
    ∷ 0 ∷ 0 ∷ 0 ∷ 11 ∷ codes "xml <>" ++ []

parts_of_jxl_cut : inventory jxl_cut
    ≡ Some (part kind.Picture 0 0 12 0 12 ∷ part kind.Unknown 0 12 13 20 5
    ∷ part kind.Broken 0 25 10 25 10 ∷ [])
unfolding walked box_piece head_of box_header
parts_of_jxl_cut = refl

-- a picture that is cut off
abbrev jxl_begun : List ℕ
jxl_begun =
    0 ∷ 0 ∷ 0 ∷ 12 ∷ codes "JXL " ++ 13 ∷ 10 ∷ 0x87 ∷ 10
    ∷ 0 ∷ 0 ∷ 0 ∷ 10 ∷ codes "xml <>" ++ 0 ∷ 0 ∷ 0 ∷ 99 ∷ codes "jxlc" ++ 0xff ∷ 0x0a ∷ []

parts_of_jxl_begun : inventory jxl_begun
    ≡ Some (part kind.Picture 0 0 12 0 12 ∷ part kind.Xmp 0 12 10 20 2
    ∷ part kind.Picture 0 22 10 22 10 ∷ [])
unfolding walked box_piece head_of box_header
parts_of_jxl_begun = refl

-- a file of another format
of_none : inventory (codes "II*\0") ≡ None
of_none = refl
