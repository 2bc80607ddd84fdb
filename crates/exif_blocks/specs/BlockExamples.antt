-- Small files that get a packet or a profile, worked by hand.
use Rattle.std.specs.Prelude.{◌≡◌, refl, ℕ, List, [], ◌∷◌, ◌++◌, codes, Ok, Err}
use Rattle.exif_inventory.specs.JpegPieces.{between_piece, stream_piece}
use Rattle.exif_inventory.specs.BoxHeaders.{box_header, head_of}
use Rattle.exif_inventory.specs.JxlPieces.{box_piece}
use Rattle.exif_inventory.specs.PngPieces.{png_piece}
use Rattle.exif_inventory.specs.Walks.{walked}
use Rattle.exif_inventory.specs.WebpPieces.{chunk_piece}
use Rattle.exif_segments.specs.Jpeg.{broken_jpeg, not_jpeg}
use Rattle.exif_blocks.specs.Blocks.{blocks_put}
use Rattle.exif_parts.specs.Jxl.{no_container}
use Rattle.exif_parts.specs.Png.{no_header}
use Rattle.exif_blocks.specs.PngBlocks.{png_put}
use Rattle.exif_blocks.specs.PutBlocks.{with_profile, with_xmp}
use Rattle.exif_blocks.specs.PutRefusals.{is_compressed, no_extension, no_profile_box}
use Rattle.exif_blocks.specs.PutViews.{Packet, plain, compressed}
use Rattle.exif_blocks.specs.WebpBlocks.{not_extended}
use Rattle.exif_blocks.specs.Zlib.{stored}
use Rattle.exif_blocks.specs.declared.blocks.Block.TheVariants as block
use Rattle.exif_blocks.specs.declared.blocks.Container.TheVariants.{Jpeg, WebP, JpegXl}

-- ---- zlib

-- one byte: a header, the last block, its length twice, the byte, and the checksum
letter : stored (codes "a")
    ≡ 0x78 ∷ 0x01 ∷ 0x01 ∷ 0x01 ∷ 0x00 ∷ 0xfe ∷ 0xff ∷ 0x61 ∷ 0x00 ∷ 0x62 ∷ 0x00 ∷ 0x62 ∷ []
letter = refl

-- a packet of two bytes, and one that goes on in further segments
abbrev short : Packet
short = record { packet = codes "xy"; extension = [] }

abbrev long : Packet
long = record { packet = codes "xy"; extension = codes "more" }

-- ---- JPEG files

-- the segment of the packet
abbrev packet_segment : List ℕ
packet_segment = 255 ∷ 225 ∷ 0 ∷ 33 ∷ codes "http://ns.adobe.com/xap/1.0/\0xy"

-- a profile of one byte in place of one in two segments, behind Exif data
profile_put : with_profile Jpeg (plain (codes "c"))
    (255 ∷ 216 ∷ 255 ∷ 225 ∷ 0 ∷ 8 ∷ (codes "Exif\0\0" ++ 255 ∷ 226 ∷ 0 ∷ 17
    ∷ (codes "ICC_PROFILE\0\u{1}\u{2}a" ++ 255 ∷ 226 ∷ 0 ∷ 17
    ∷ (codes "ICC_PROFILE\0\u{2}\u{2}b" ++ 255 ∷ 217 ∷ []))))
    ≡ Ok (255 ∷ 216 ∷ 255 ∷ 225 ∷ 0 ∷ 8 ∷ (codes "Exif\0\0" ++ 255 ∷ 226 ∷ 0 ∷ 17
    ∷ (codes "ICC_PROFILE\0\u{1}\u{1}c" ++ 255 ∷ 217 ∷ [])))
unfolding walked between_piece stream_piece blocks_put
profile_put = refl

-- a packet behind Exif data, in place of one in front of them
packet_put : with_xmp Jpeg short
    (255 ∷ 216 ∷ 255 ∷ 225 ∷ 0 ∷ 31 ∷ (codes "http://ns.adobe.com/xap/1.0/\0"
    ++ 255 ∷ 225 ∷ 0 ∷ 8 ∷ (codes "Exif\0\0" ++ 255 ∷ 217 ∷ [])))
    ≡ Ok (255 ∷ 216 ∷ 255 ∷ 225 ∷ 0 ∷ 8 ∷ (codes "Exif\0\0" ++ packet_segment ++ 255 ∷ 217 ∷ []))
unfolding walked between_piece stream_piece blocks_put
packet_put = refl

-- where there are none, it is in front of the first marker that is no APP0; what follows the image
-- stays, also another image with a packet
no_exif_there : with_xmp Jpeg short
    (255 ∷ 216 ∷ 255 ∷ 224 ∷ 0 ∷ 2 ∷ 255 ∷ 254 ∷ 0 ∷ 3 ∷ 1 ∷ 255 ∷ 217 ∷ 255 ∷ 216 ∷ 255 ∷ 225
    ∷ 0 ∷ 31 ∷ (codes "http://ns.adobe.com/xap/1.0/\0" ++ 255 ∷ 217 ∷ []))
    ≡ Ok (255 ∷ 216 ∷ 255 ∷ 224 ∷ 0 ∷ 2 ∷ (packet_segment
    ++ 255 ∷ 254 ∷ 0 ∷ 3 ∷ 1 ∷ 255 ∷ 217 ∷ 255 ∷ 216 ∷ 255 ∷ 225
    ∷ 0 ∷ 31 ∷ (codes "http://ns.adobe.com/xap/1.0/\0" ++ 255 ∷ 217 ∷ [])))
unfolding walked between_piece stream_piece blocks_put
no_exif_there = refl

-- a segment that is cut off stays
cut_segment : with_xmp Jpeg short (255 ∷ 216 ∷ 255 ∷ 254 ∷ 0 ∷ 9 ∷ 1 ∷ [])
    ≡ Ok (255 ∷ 216 ∷ (packet_segment ++ 255 ∷ 254 ∷ 0 ∷ 9 ∷ 1 ∷ []))
unfolding walked between_piece stream_piece blocks_put
cut_segment = refl

one_byte : with_xmp Jpeg short (255 ∷ []) ≡ Err broken_jpeg
one_byte = refl

other_format : with_xmp Jpeg short (codes "GIF89a") ≡ Err not_jpeg
other_format = refl

png_only : with_profile Jpeg (compressed (codes "icc\0\0z")) (255 ∷ 216 ∷ []) ≡ Err is_compressed
png_only = refl

-- ---- PNG files

-- the signature and an image header, whose data are short here
abbrev png_header : List ℕ
png_header = codes "\u{89}PNG\r\n\u{1a}\n\0\0\0\0IHDRcrc1"

-- a new chunk is behind the image header; the colour space goes, and the end and what follows stay
png_profile : png_put block.Profile (codes "new")
    (png_header ++ codes "\0\0\0\u{1}sRGBacrc2\0\0\0\0IENDcrc3end")
    ≡ Ok (png_header ++ codes "new\0\0\0\0IENDcrc3end")
unfolding blocks_put png_piece
png_profile = refl

-- a packet that is compressed goes, too, and a text with another keyword stays
png_packet : png_put block.Xmp (codes "new")
    (png_header ++ (codes "\0\0\0\u{15}iTXtXML:com.adobe.xmp\0\u{1}\0\0crc2"
    ++ codes "\0\0\0\u{6}iTXta\0\0\0\0\0crc3\0\0\0\0IENDcrc4"))
    ≡ Ok (png_header ++ codes "new\0\0\0\u{6}iTXta\0\0\0\0\0crc3\0\0\0\0IENDcrc4")
unfolding blocks_put png_piece
png_packet = refl

-- a file that is cut off keeps what there is
png_cut : png_put block.Profile (codes "new") (png_header ++ codes "\0\0\0\u{2}iCCPa")
    ≡ Ok (png_header ++ codes "new\0\0\0\u{2}iCCPa")
unfolding blocks_put png_piece
png_cut = refl

png_headless : png_put block.Xmp (codes "new") (codes "\u{89}PNG\r\n\u{1a}\n\0\0\0\0IENDcrc1")
    ≡ Err no_header
png_headless = refl

-- ---- WebP files

-- an extended header with the flag of Exif data, an image of two bytes and Exif data of two: a
-- packet of three bytes with its pad byte makes 12 bytes more
webp : with_xmp WebP (record { packet = codes "xyz"; extension = [] })
    (codes "RIFF*\0\0\0WEBPVP8X\n\0\0\0\u{8}\0\0\0\0\0\0\0\0\0VP8 \u{2}\0\0\0xyEXIF\u{2}\0\0\0II")
    ≡ Ok (codes "RIFF6\0\0\0WEBPVP8X\n\0\0\0\u{c}\0\0\0\0\0\0\0\0\0VP8 \u{2}\0\0\0xyEXIF\u{2}\0\0\0IIXMP \u{3}\0\0\0xyz\0")
unfolding blocks_put chunk_piece
webp = refl

-- without Exif data it is the last chunk, in front of what follows the chunks, and its own goes
webp_last : with_xmp WebP (record { packet = codes "xyz"; extension = [] })
    (codes "RIFF*\0\0\0WEBPVP8X\n\0\0\0\u{4}\0\0\0\0\0\0\0\0\0XMP \u{2}\0\0\0abVP8 \u{2}\0\0\0xyend")
    ≡ Ok (codes "RIFF,\0\0\0WEBPVP8X\n\0\0\0\u{4}\0\0\0\0\0\0\0\0\0VP8 \u{2}\0\0\0xyXMP \u{3}\0\0\0xyz\0end")
unfolding blocks_put chunk_piece
webp_last = refl

-- a profile is behind the extended header
webp_profile : with_profile WebP (plain (codes "cc"))
    (codes "RIFF \0\0\0WEBPVP8X\n\0\0\0\0\0\0\0\0\0\0\0\0\0VP8 \u{2}\0\0\0xy")
    ≡ Ok (codes "RIFF*\0\0\0WEBPVP8X\n\0\0\0 \0\0\0\0\0\0\0\0\0ICCP\u{2}\0\0\0ccVP8 \u{2}\0\0\0xy")
unfolding blocks_put chunk_piece
webp_profile = refl

webp_simple : with_xmp WebP short (codes "RIFF\u{e}\0\0\0WEBPVP8 \u{2}\0\0\0xy") ≡ Err not_extended
unfolding blocks_put chunk_piece
webp_simple = refl

webp_long : with_xmp WebP long (codes "RIFF\u{4}\0\0\0WEBP") ≡ Err no_extension
webp_long = refl

-- ---- JPEG XL files

-- the first box and that of the file's type
abbrev typed : List ℕ
typed =
    codes "\0\0\0\u{c}JXL \r\n" ++ 135 ∷ 10 ∷ codes "\0\0\0\u{14}ftypjxl \0\0\0\0jxl "

-- a packet behind the Exif data, in place of one that is plain and of one that is compressed; other
-- boxes that are compressed stay
jxl : with_xmp JpegXl short
    (typed ++ (codes "\0\0\0\txml a\0\0\0\njxlcim\0\0\0\rbrobxml b\0\0\0\u{e}Exif\0\0\0\0ab"
    ++ codes "\0\0\0\rbrobjumbc"))
    ≡ Ok (typed ++ (codes "\0\0\0\njxlcim\0\0\0\u{e}Exif\0\0\0\0ab\0\0\0\nxml xy"
    ++ codes "\0\0\0\rbrobjumbc"))
unfolding walked blocks_put box_piece head_of box_header
jxl = refl

-- it is behind the file's type where there are no Exif data, and so before a box that goes to the end
-- of the file
jxl_typed : with_xmp JpegXl short (typed ++ codes "\0\0\0\0jxlcimage")
    ≡ Ok (typed ++ codes "\0\0\0\nxml xy\0\0\0\0jxlcimage")
unfolding walked blocks_put box_piece head_of box_header
jxl_typed = refl

-- and in front of Exif data that go there
jxl_last : with_xmp JpegXl short (typed ++ codes "\0\0\0\njxlcim\0\0\0\0Exif\0\0\0\0ab")
    ≡ Ok (typed ++ codes "\0\0\0\njxlcim\0\0\0\nxml xy\0\0\0\0Exif\0\0\0\0ab")
unfolding walked blocks_put box_piece head_of box_header
jxl_last = refl

jxl_bare : with_xmp JpegXl short (255 ∷ 10 ∷ []) ≡ Err no_container
jxl_bare = refl

jxl_long : with_xmp JpegXl long typed ≡ Err no_extension
jxl_long = refl

jxl_profile : with_profile JpegXl (plain (codes "cc")) typed ≡ Err no_profile_box
jxl_profile = refl
