-- Where the directories of TIFF data say that previews are (TIFF 6.0, section 2, section 8 for
-- Compression, PhotometricInterpretation, StripOffsets and StripByteCounts, and section 22 for
-- JPEGInterchangeFormat; TIFF Technical Note 1, "TIFF Trees", and Note 2, JPEGTables; TIFF/EP;
-- DNG 1.6, "Preview Images").
use Rattle.std.specs.Prelude.{ℕ, ◌^◌, ◌==◌, ◌&&◌, ◌||◌, nat_lt, nat_le, Bool, false, if◌then◌else◌, List, [], length, Option, Some, None, is_none}
use Rattle.std.specs.List.{filter_map, find}
use Rattle.std.specs.Option.{option_and_then, option_map_or, option_or}
use Rattle.exif_base.specs.Bytes.{Reading, number_at}
use Rattle.exif_base.specs.Orders.{number_of, order_named}
use Rattle.exif_edit_base.specs.GpsOffsets.{all_directories}
use Rattle.exif_tiff.specs.Trace.{entry_offsets, entry_value}
use Rattle.exif_types.specs.Numbers.{number_in}
use Rattle.exif_types.specs.declared.value.Value.{Value}
use Rattle.exif_thumbnails.specs.declared.place.Place.{Place}

-- where the first entry is that has a tag, of the directory at p
abbrev pub entry_named : Reading → List ℕ → ℕ → ℕ → Option ℕ
entry_named number bytes p tag =
    find (λ e. number_at number 2 bytes e == tag) (entry_offsets number bytes p)

-- the number of a value that has no other
abbrev pub only_number : Value → Option ℕ
only_number value = if is_none (number_in value 1) then number_in value 0 else None

-- the one number that it has for a tag, in the data
abbrev pub number_named : Reading → List ℕ → ℕ → ℕ → Option ℕ
number_named number bytes p tag =
    option_and_then (λ e. option_and_then only_number (entry_value number bytes e))
    (entry_named number bytes p tag)

-- the place whose offset and length it has for two tags
abbrev pub place_named : Reading → List ℕ → ℕ → ℕ → ℕ → Option Place
place_named number bytes p offset_tag len_tag =
    option_and_then (λ offset. option_and_then (λ len. Some (record { offset = offset; len = len }))
    (number_named number bytes p len_tag))
    (number_named number bytes p offset_tag)

-- whether there is such a number, and it is one of two
abbrev pub is_either : ℕ → ℕ → Option ℕ → Bool
is_either a b found = option_map_or (λ n. (n == a) || (n == b)) found false

-- whether its picture is coded as JPEG (compression 6 or 7), in RGB (2) or YCbCr (6), so that it is
-- not raw (32803, 34892), and without tables that its strips need
abbrev pub is_jpeg_picture : Reading → List ℕ → ℕ → Bool
is_jpeg_picture number bytes p =
    is_either 6 7 (number_named number bytes p 0x103)
    && (is_either 2 6 (number_named number bytes p 0x106)
    && is_none (entry_named number bytes p 0x15b))

-- its one strip, if that is such a picture
abbrev pub strip_in : Reading → List ℕ → ℕ → Option Place
strip_in number bytes p =
    if is_jpeg_picture number bytes p then place_named number bytes p 0x111 0x117 else None

-- its preview: what tags 0x201 and 0x202 name, or else the strip
abbrev pub preview_in : Reading → List ℕ → ℕ → Option Place
preview_in number bytes p =
    option_or (place_named number bytes p 0x201 0x202) (strip_in number bytes p)

-- those of all directories, of data which have a header and which offsets of 32 bits reach
abbrev pub previews_in : List ℕ → Bool → List Place
previews_in bytes little_endian =
    if nat_lt (length bytes) 8 || nat_le (2 ^ 32) (length bytes) then [] else
    (let number = number_of (order_named little_endian) in
    filter_map (preview_in number bytes) (all_directories number bytes))
