-- Why the Exif data of a HEIF file are refused.
use Rattle.std.specs.Prelude.{List, [], ◌∷◌, codes}
use Rattle.exif_types.specs.Refusals.{Refusal, invalid_format, not_found, not_supported}

-- a box of the file or an extent is cut
abbrev pub broken_file : Refusal
broken_file = invalid_format (codes "Broken HEIF file")

-- a size is under that of its header
abbrev pub invalid_size : Refusal
invalid_size = invalid_format (codes "Invalid box size")

-- a box before `meta` has 2^63 bytes or more
abbrev pub seek_too_large : Refusal
seek_too_large = invalid_format (codes "Large seek not supported")

-- the `ftyp` lists no brand of HEIF
abbrev pub no_brand : Refusal
no_brand = invalid_format (codes "No compatible brand recognized in ISO base media file")

-- no `ftyp` is before the `meta`
abbrev pub meta_before_ftyp : Refusal
meta_before_ftyp = invalid_format (codes "MetaBox found before FileTypeBox")

-- a box ends before what is to be in it
abbrev pub too_small : Refusal
too_small = invalid_format (codes "Box too small")

-- a `meta` of another version than 0
abbrev pub unsupported_meta : Refusal
unsupported_meta = invalid_format (codes "Unsupported MetaBox")

-- an `infe` of another version than 2 and 3
abbrev pub unsupported_infe : Refusal
unsupported_infe = invalid_format (codes "Unsupported ItemInfoEntry")

-- an `iloc` of a version over 2
abbrev pub unsupported_iloc : Refusal
unsupported_iloc = invalid_format (codes "Unsupported ItemLocationBox")

-- the data of an item are in another file
abbrev pub external_data : Refusal
external_data = not_supported (codes "External data reference is not supported")

-- a base of another size than 0, 4 or 8 bytes
abbrev pub invalid_base_size : Refusal
invalid_base_size = invalid_format (codes "Invalid base_offset_size")

-- an index of another size than 0, 4 or 8 bytes
abbrev pub invalid_index_size : Refusal
invalid_index_size = invalid_format (codes "Invalid index_size")

-- an offset of another size than 0, 4 or 8 bytes
abbrev pub invalid_offset_size : Refusal
invalid_offset_size = invalid_format (codes "Invalid offset_size")

-- a length of another size than 0, 4 or 8 bytes
abbrev pub invalid_length_size : Refusal
invalid_length_size = invalid_format (codes "Invalid length_size")

-- the `iloc` has no location of the Exif item
abbrev pub no_matching_item : Refusal
no_matching_item = invalid_format (codes "No matching item in ItemLocationBox")

-- `meta` has no `iloc`
abbrev pub no_iloc : Refusal
no_iloc = invalid_format (codes "No ItemLocationBox")

-- no item holds Exif data
abbrev pub no_exif : Refusal
no_exif = not_found (codes "HEIF")

-- a base and an offset are over 2^64 - 1 together
abbrev pub invalid_offset : Refusal
invalid_offset = invalid_format (codes "Invalid offset")

-- an item is put together from an `idat` that is not there
abbrev pub no_idat : Refusal
no_idat = invalid_format (codes "No ItemDataBox")

-- an extent of `idat` ends behind 2^64 - 1
abbrev pub invalid_length : Refusal
invalid_length = invalid_format (codes "Invalid length")

-- an extent ends behind its `idat`
abbrev pub out_of_idat : Refusal
out_of_idat = invalid_format (codes "Out of ItemDataBox")

-- an item is put together from another item
abbrev pub by_item_offset : Refusal
by_item_offset = not_supported (codes "Construction by item offset is not supported")

-- an item is put together in no known way
abbrev pub invalid_method : Refusal
invalid_method = invalid_format (codes "Invalid construction_method")

-- an item has more than 65,535 bytes
abbrev pub data_too_large : Refusal
data_too_large = invalid_format (codes "Exif data too large")

-- the Exif item has fewer than four bytes
abbrev pub block_too_small : Refusal
block_too_small = invalid_format (codes "ExifDataBlock too small")

-- the Exif data begin behind the end of their item
abbrev pub invalid_header_offset : Refusal
invalid_header_offset = invalid_format (codes "Invalid Exif header offset")

-- all of them
abbrev pub heif_refusals : List Refusal
heif_refusals =
    broken_file ∷ invalid_size ∷ seek_too_large ∷ no_brand ∷ meta_before_ftyp
    ∷ too_small ∷ unsupported_meta ∷ unsupported_infe ∷ unsupported_iloc ∷ external_data
    ∷ invalid_base_size ∷ invalid_index_size ∷ invalid_offset_size ∷ invalid_length_size
    ∷ no_matching_item
    ∷ no_iloc ∷ no_exif ∷ invalid_offset ∷ no_idat ∷ invalid_length
    ∷ out_of_idat ∷ by_item_offset ∷ invalid_method ∷ data_too_large ∷ block_too_small
    ∷ invalid_header_offset ∷ []
