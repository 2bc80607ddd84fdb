-- Worked examples: the definitions compute what erasing gives.
use Rattle.std.specs.Prelude.{ℕ, ◌≡◌, refl, List, [], ◌∷◌, ◌++◌, codes, replicate}
use Rattle.exif_locations.specs.IptcDatasets as iptc
use Rattle.exif_locations.specs.IptcDatasets.{dataset_at}
use Rattle.exif_locations.specs.XmpErasing as xmp
use Rattle.exif_locations.specs.XmpErasing.{step_at}
use Rattle.exif_locations.specs.XmpNames.{is_location, is_word}
use Rattle.exif_locations.specs.XmpTokens.{attribute_at, content_at, markup_at, opening_at, tag_at}
use Rattle.exif_locations.specs.declared.iptc.fault.Fault.TheVariants.{Cut}
use Rattle.exif_table.specs.declared.context.Context.TheVariants.{Tiff}
use Rattle.exif_types.specs.declared.tag.Tag.{Tag}
use Rattle.exif_tiff.specs.Trace.{trace, ordered_trace}
use Rattle.exif_edit_base.specs.GpsOffsets.{all_directories, chain_from, children_from, gps_offsets, gps_pointers, leftovers, pointers}
use Rattle.exif_edit_base.specs.Locations.{directory_offsets, located, visited_gps}
use Rattle.exif_edit_base.specs.Readings.{reading}
use Rattle.exif_edit.specs.Erasing.{erase_patches, gps_spans}
use Rattle.exif_locations.specs.declared.unread.Unread.TheVariants.{Keep, Blank}
use Rattle.exif_data_locations.specs.Locations.{data_erased}
use Rattle.exif_inventory.specs.Resources.{resource_at}
use Rattle.exif_data_locations.specs.Resources.{resources_by}
use Rattle.exif_data_locations.specs.declared.reason.Reason.TheVariants.{NotChanged, GpsShared, NotReadWhole, SubIfdsNotRead, MakerNote, IptcNotRead, ResourcesNotRead, ExifResource, OtherResource, Text, TypeNotKnown, Shared}

-- big-endian data, of which the directory at 8 has one entry, and its value is at 26
abbrev one : List ℕ → List ℕ → List ℕ
one entry value = 77 ∷ 77 ∷ 0 ∷ 42 ∷ 0 ∷ 0 ∷ 0 ∷ 8
    ∷ 0 ∷ 1 ∷ entry ++ 0 ∷ 0 ∷ 0 ∷ 26 ∷ 0 ∷ 0 ∷ 0 ∷ 0 ∷ value

-- the city in IPTC data, of five bytes
abbrev city : List ℕ → List ℕ
city name = 28 ∷ 2 ∷ 90 ∷ 0 ∷ 5 ∷ name

-- a location of five bytes, erased
abbrev erased : List ℕ
erased = 32 ∷ 32 ∷ 32 ∷ 32 ∷ 32 ∷ []

-- ---- one field

-- IPTC data of type UNDEFINED
abbrev iptc_data : List ℕ → List ℕ
iptc_data name = one (131 ∷ 187 ∷ 0 ∷ 7 ∷ 0 ∷ 0 ∷ 0 ∷ 10 ∷ []) (city name ++ 9 ∷ [])

-- the byte behind them stays
iptc_erased : data_erased Keep (iptc_data (codes "Basel"))
    ≡ (iptc_data erased, [])
unfolding reading erase_patches visited_gps gps_spans gps_offsets gps_pointers all_directories children_from chain_from pointers leftovers directory_offsets located trace ordered_trace iptc.erased_by dataset_at
iptc_erased = refl

-- an XMP packet of type BYTE
abbrev xmp_data : List ℕ → List ℕ
xmp_data packet = one (2 ∷ 188 ∷ 0 ∷ 1 ∷ 0 ∷ 0 ∷ 0 ∷ 19 ∷ []) packet

-- the attribute becomes spaces
xmp_erased : data_erased Keep (xmp_data (codes "<a x:City='Basel'/>"))
    ≡ (xmp_data (codes "<a               />"), [])
unfolding reading erase_patches visited_gps gps_spans gps_offsets gps_pointers all_directories children_from chain_from pointers leftovers directory_offsets located trace ordered_trace xmp.erased_by step_at content_at markup_at opening_at tag_at attribute_at is_location is_word
xmp_erased = refl

-- the scale of a map: one number of type DOUBLE
abbrev scale_data : List ℕ → List ℕ
scale_data value = one (131 ∷ 14 ∷ 0 ∷ 12 ∷ 0 ∷ 0 ∷ 0 ∷ 1 ∷ []) value

-- it becomes zeros
scale_erased : data_erased Keep (scale_data (64 ∷ 1 ∷ 2 ∷ 3 ∷ 4 ∷ 5 ∷ 6 ∷ 7 ∷ []))
    ≡ (scale_data (0 ∷ 0 ∷ 0 ∷ 0 ∷ 0 ∷ 0 ∷ 0 ∷ 0 ∷ []), [])
unfolding reading erase_patches visited_gps gps_spans gps_offsets gps_pointers all_directories children_from chain_from pointers leftovers directory_offsets located trace ordered_trace
scale_erased = refl

-- two resources of Photoshop: IPTC data, and Exif data without a byte
abbrev resources_data : List ℕ → List ℕ
resources_data name =
    one (134 ∷ 73 ∷ 0 ∷ 1 ∷ 0 ∷ 0 ∷ 0 ∷ 34 ∷ [])
    (56 ∷ 66 ∷ 73 ∷ 77 ∷ 4 ∷ 4 ∷ 0 ∷ 0 ∷ 0 ∷ 0 ∷ 0 ∷ 10 ∷ city name
    ++ 56 ∷ 66 ∷ 73 ∷ 77 ∷ 4 ∷ 34 ∷ 0 ∷ 0 ∷ 0 ∷ 0 ∷ 0 ∷ 0 ∷ [])

-- the first is erased, and the second reported
resources_erased : data_erased Keep (resources_data (codes "Basel"))
    ≡ (resources_data erased, ExifResource ∷ [])
unfolding reading erase_patches visited_gps gps_spans gps_offsets gps_pointers all_directories children_from chain_from pointers leftovers directory_offsets located trace ordered_trace resource_at resources_by iptc.erased_by dataset_at
resources_erased = refl

-- a caption, which is reported, and a copyright flag, which is not
abbrev captioned : List ℕ
captioned =
    one (134 ∷ 73 ∷ 0 ∷ 1 ∷ 0 ∷ 0 ∷ 0 ∷ 28 ∷ [])
    (codes "8BIM" ++ 3 ∷ 240 ∷ 0 ∷ 0 ∷ 0 ∷ 0 ∷ 0 ∷ 2 ∷ 1 ∷ 98
    ∷ codes "8BIM" ++ 4 ∷ 10 ∷ 0 ∷ 0 ∷ 0 ∷ 0 ∷ 0 ∷ 1 ∷ 1 ∷ 0 ∷ [])

caption_stays : data_erased Keep captioned ≡ (captioned, OtherResource ∷ [])
unfolding reading erase_patches visited_gps gps_spans gps_offsets gps_pointers all_directories children_from chain_from pointers leftovers directory_offsets located trace ordered_trace resource_at resources_by
caption_stays = refl

-- a resource that is longer than its field
abbrev cut_resource : List ℕ
cut_resource =
    one (134 ∷ 73 ∷ 0 ∷ 1 ∷ 0 ∷ 0 ∷ 0 ∷ 13 ∷ [])
    (56 ∷ 66 ∷ 73 ∷ 77 ∷ 4 ∷ 4 ∷ 0 ∷ 0 ∷ 0 ∷ 0 ∷ 0 ∷ 10 ∷ 28 ∷ [])

-- is reported
cut_resource_stays : data_erased Keep (cut_resource)
    ≡ (cut_resource, ResourcesNotRead ∷ [])
unfolding reading erase_patches visited_gps gps_spans gps_offsets gps_pointers all_directories children_from chain_from pointers leftovers directory_offsets located trace ordered_trace resource_at resources_by iptc.erased_by dataset_at
cut_resource_stays = refl

-- a dataset that is longer than its field
abbrev cut_iptc : List ℕ
cut_iptc = one (131 ∷ 187 ∷ 0 ∷ 7 ∷ 0 ∷ 0 ∷ 0 ∷ 9 ∷ []) (city (codes "Base"))

-- is reported
cut_iptc_stays : data_erased Keep (cut_iptc)
    ≡ (cut_iptc, IptcNotRead 33723 Cut ∷ [])
unfolding reading erase_patches visited_gps gps_spans gps_offsets gps_pointers all_directories children_from chain_from pointers leftovers directory_offsets located trace ordered_trace iptc.erased_by dataset_at
cut_iptc_stays = refl

-- or overwritten
cut_iptc_is_cleared : data_erased Blank (cut_iptc)
    ≡ (one (131 ∷ 187 ∷ 0 ∷ 7 ∷ 0 ∷ 0 ∷ 0 ∷ 9 ∷ []) (replicate 9 0), [])
unfolding reading erase_patches visited_gps gps_spans gps_offsets gps_pointers all_directories children_from chain_from pointers leftovers directory_offsets located trace ordered_trace iptc.erased_by dataset_at
cut_iptc_is_cleared = refl

-- XMP of type UTF-8 (Exif 3.0, 4.6.2), which reading does not know
abbrev utf8 : List ℕ
utf8 = one (2 ∷ 188 ∷ 0 ∷ 129 ∷ 0 ∷ 0 ∷ 0 ∷ 5 ∷ []) (codes "<a/> ")

-- is reported
utf8_stays : data_erased Keep (utf8)
    ≡ (utf8, TypeNotKnown 700 ∷ [])
unfolding reading erase_patches visited_gps gps_spans gps_offsets gps_pointers all_directories children_from chain_from pointers leftovers directory_offsets located trace ordered_trace
utf8_stays = refl

-- IPTC data outside of the data
abbrev outside : List ℕ
outside = one (131 ∷ 187 ∷ 0 ∷ 7 ∷ 0 ∷ 0 ∷ 0 ∷ 10 ∷ []) []

-- are reported
outside_stays : data_erased Keep (outside)
    ≡ (outside, NotReadWhole ∷ [])
unfolding reading erase_patches visited_gps gps_spans gps_offsets gps_pointers all_directories children_from chain_from pointers leftovers directory_offsets located trace ordered_trace
outside_stays = refl

-- ---- two fields

-- the directory at 8 has two entries
abbrev two : List ℕ → List ℕ → List ℕ
two entries value = 77 ∷ 77 ∷ 0 ∷ 42 ∷ 0 ∷ 0 ∷ 0 ∷ 8
    ∷ 0 ∷ 2 ∷ entries ++ 0 ∷ 0 ∷ 0 ∷ 0 ∷ value

-- ImageDescription, which is a text
abbrev description : Tag
description = record { 0 = Tiff; 1 = 270 }

-- a description and IPTC data with the same bytes, at 38
abbrev sharing : List ℕ
sharing =
    two (1 ∷ 14 ∷ 0 ∷ 2 ∷ 0 ∷ 0 ∷ 0 ∷ 10 ∷ 0 ∷ 0 ∷ 0 ∷ 38
    ∷ 131 ∷ 187 ∷ 0 ∷ 7 ∷ 0 ∷ 0 ∷ 0 ∷ 10 ∷ 0 ∷ 0 ∷ 0 ∷ 38 ∷ []) (city (codes "Basel"))

-- stay, since the description would change
sharing_stays : data_erased Keep (sharing)
    ≡ (sharing, Text description ∷ Shared ∷ [])
unfolding reading erase_patches visited_gps gps_spans gps_offsets gps_pointers all_directories children_from chain_from pointers leftovers directory_offsets located trace ordered_trace iptc.erased_by dataset_at
sharing_stays = refl

-- a GPS directory at 38, whose bytes are a description, too
abbrev sharing_gps : List ℕ
sharing_gps =
    two (1 ∷ 14 ∷ 0 ∷ 2 ∷ 0 ∷ 0 ∷ 0 ∷ 18 ∷ 0 ∷ 0 ∷ 0 ∷ 38
    ∷ 136 ∷ 37 ∷ 0 ∷ 4 ∷ 0 ∷ 0 ∷ 0 ∷ 1 ∷ 0 ∷ 0 ∷ 0 ∷ 38 ∷ [])
    (0 ∷ 1 ∷ 0 ∷ 1 ∷ 0 ∷ 2 ∷ 0 ∷ 0 ∷ 0 ∷ 2 ∷ 78 ∷ 0 ∷ 0 ∷ 0 ∷ 0 ∷ 0 ∷ 0 ∷ 0 ∷ [])

-- stays, since the description would change
sharing_gps_stays : data_erased Keep (sharing_gps)
    ≡ (sharing_gps, GpsShared ∷ Text description ∷ [])
unfolding reading erase_patches visited_gps gps_spans gps_offsets gps_pointers all_directories children_from chain_from pointers leftovers directory_offsets located trace ordered_trace
sharing_gps_stays = refl

-- SubIFDs, and a maker note of four bytes
abbrev unread : List ℕ
unread =
    two (1 ∷ 74 ∷ 0 ∷ 4 ∷ 0 ∷ 0 ∷ 0 ∷ 1 ∷ 0 ∷ 0 ∷ 0 ∷ 0
    ∷ 146 ∷ 124 ∷ 0 ∷ 7 ∷ 0 ∷ 0 ∷ 0 ∷ 4 ∷ 1 ∷ 2 ∷ 3 ∷ 4 ∷ []) []

-- are reported
unread_stays : data_erased Keep (unread)
    ≡ (unread, SubIfdsNotRead ∷ MakerNote ∷ [])
unfolding reading erase_patches visited_gps gps_spans gps_offsets gps_pointers all_directories children_from chain_from pointers leftovers directory_offsets located trace ordered_trace
unread_stays = refl

-- ---- none

-- data without a header
no_header : data_erased Keep (77 ∷ 77 ∷ 0 ∷ 42 ∷ [])
    ≡ (77 ∷ 77 ∷ 0 ∷ 42 ∷ [], NotChanged ∷ [])
unfolding reading erase_patches visited_gps gps_spans gps_offsets gps_pointers all_directories children_from chain_from pointers leftovers directory_offsets located trace ordered_trace
no_header = refl
