-- Worked examples of thumbnails, by bytes written by hand.
use Rattle.std.specs.Prelude.{ℕ, ◌≡◌, refl, List, [], ◌∷◌, ◌++◌, codes}
use Rattle.exif_inventory.specs.JpegPieces.{between_piece, stream_piece}
use Rattle.exif_inventory.specs.Resources.{resource_at, resource_piece}
use Rattle.exif_inventory.specs.Walks.{walked}
use Rattle.exif_locations.specs.IptcDatasets as iptc
use Rattle.exif_locations.specs.IptcDatasets.{dataset_at}
use Rattle.exif_tiff.specs.Trace.{trace, ordered_trace}
use Rattle.exif_edit_base.specs.GpsOffsets.{all_directories, chain_from, children_from, gps_offsets, gps_pointers, leftovers, pointers}
use Rattle.exif_edit_base.specs.Locations.{directory_offsets, located, visited_gps}
use Rattle.exif_edit_base.specs.Readings.{reading}
use Rattle.exif_edit.specs.Erasing.{erase_patches, gps_spans}
use Rattle.exif_locations.specs.declared.unread.Unread.TheVariants.{Keep}
use Rattle.exif_data_locations.specs.Locations.{data_erased}
use Rattle.exif_data_locations.specs.declared.reason.Reason.TheVariants.{Shared, Thumbnail}

-- the second directory, whose fields say that so many bytes from an offset on are the thumbnail
abbrev second_directory : ℕ → ℕ → List ℕ
second_directory offset len =
    0 ∷ 2
    ∷ 2 ∷ 1 ∷ 0 ∷ 4 ∷ 0 ∷ 0 ∷ 0 ∷ 1 ∷ 0 ∷ 0 ∷ 0 ∷ offset
    ∷ 2 ∷ 2 ∷ 0 ∷ 4 ∷ 0 ∷ 0 ∷ 0 ∷ 1 ∷ 0 ∷ 0 ∷ 0 ∷ len
    ∷ 0 ∷ 0 ∷ 0 ∷ 0 ∷ []

-- big-endian data, of which the first directory has a field, and the thumbnail is at 56
abbrev thumbnail_data : List ℕ → ℕ → List ℕ → List ℕ
thumbnail_data entry len stream =
    77 ∷ 77 ∷ 0 ∷ 42 ∷ 0 ∷ 0 ∷ 0 ∷ 8 ∷ 0 ∷ 1 ∷ entry ++ 0 ∷ 0 ∷ 0 ∷ 26 ∷ second_directory 56 len
    ++ stream

-- its orientation
abbrev orientation : List ℕ
orientation = 1 ∷ 18 ∷ 0 ∷ 3 ∷ 0 ∷ 0 ∷ 0 ∷ 1 ∷ 0 ∷ 1 ∷ 0 ∷ 0 ∷ []

-- a stream with a comment
abbrev commented : List ℕ → List ℕ
commented comment =
    0xff ∷ 0xd8 ∷ 0xff ∷ 0xfe ∷ 0 ∷ 7 ∷ comment ++ 0xff ∷ 0xd9 ∷ []

-- is reported
comment_stays : data_erased Keep (thumbnail_data orientation 13 (commented (codes "Basel")))
    ≡ (thumbnail_data orientation 13 (commented (codes "Basel")), Thumbnail ∷ [])
unfolding reading erase_patches visited_gps gps_spans gps_offsets gps_pointers all_directories children_from chain_from pointers leftovers directory_offsets located trace ordered_trace walked stream_piece between_piece
comment_stays = refl

-- but zeros are not
zeros_stay : data_erased Keep (thumbnail_data orientation 13 (commented (codes "\0\0\0\0\0")))
    ≡ (thumbnail_data orientation 13 (commented (codes "\0\0\0\0\0")), [])
unfolding reading erase_patches visited_gps gps_spans gps_offsets gps_pointers all_directories children_from chain_from pointers leftovers directory_offsets located trace ordered_trace walked stream_piece between_piece
zeros_stay = refl

-- nor is a stream that is longer than the data
cut_stays : data_erased Keep (thumbnail_data orientation 14 (commented (codes "Basel")))
    ≡ (thumbnail_data orientation 14 (commented (codes "Basel")), [])
unfolding reading erase_patches visited_gps gps_spans gps_offsets gps_pointers all_directories children_from chain_from pointers leftovers directory_offsets located trace ordered_trace walked stream_piece between_piece
cut_stays = refl

-- bytes that begin no stream
no_stream_stays : data_erased Keep (thumbnail_data orientation 5 (codes "Basel"))
    ≡ (thumbnail_data orientation 5 (codes "Basel"), [])
unfolding reading erase_patches visited_gps gps_spans gps_offsets gps_pointers all_directories children_from chain_from pointers leftovers directory_offsets located trace ordered_trace walked stream_piece between_piece
no_stream_stays = refl

-- a stream with the resource of IPTC data, which name a city: its five bytes are at 37
abbrev resourced : List ℕ → List ℕ
resourced name =
    0xff ∷ 0xd8
    ∷ 0xff ∷ 0xed ∷ 0 ∷ 38 ∷ codes "Photoshop 3.0\0"
    ++ codes "8BIM" ++ 4 ∷ 4 ∷ 0 ∷ 0 ∷ 0 ∷ 0 ∷ 0 ∷ 10 ∷ 28 ∷ 2 ∷ 90 ∷ 0 ∷ 5 ∷ name
    ++ 0xff ∷ 0xd9 ∷ []

-- the city becomes spaces
city_erased : data_erased Keep (thumbnail_data orientation 44 (resourced (codes "Basel")))
    ≡ (thumbnail_data orientation 44 (resourced (codes "     ")), [])
unfolding reading erase_patches visited_gps gps_spans gps_offsets gps_pointers all_directories children_from chain_from pointers leftovers directory_offsets located trace ordered_trace walked stream_piece between_piece resource_piece resource_at iptc.erased_by dataset_at
city_erased = refl

-- where the artist is in the same bytes, they stay
abbrev artist : List ℕ
artist = 1 ∷ 59 ∷ 0 ∷ 2 ∷ 0 ∷ 0 ∷ 0 ∷ 5 ∷ 0 ∷ 0 ∷ 0 ∷ 93 ∷ []

-- since the artist would change
shared_city_stays : data_erased Keep (thumbnail_data artist 44 (resourced (codes "Basel")))
    ≡ (thumbnail_data artist 44 (resourced (codes "Basel")), Shared ∷ [])
unfolding reading erase_patches visited_gps gps_spans gps_offsets gps_pointers all_directories children_from chain_from pointers leftovers directory_offsets located trace ordered_trace walked stream_piece between_piece resource_piece resource_at iptc.erased_by dataset_at
shared_city_stays = refl

-- a stream with Exif data, which have no orientation and IPTC data with a city
abbrev nested : List ℕ → List ℕ
nested name =
    0xff ∷ 0xd8
    ∷ 0xff ∷ 0xe1 ∷ 0 ∷ 44 ∷ codes "Exif\0\0"
    ++ 77 ∷ 77 ∷ 0 ∷ 42 ∷ 0 ∷ 0 ∷ 0 ∷ 8 ∷ 0 ∷ 1
    ∷ 131 ∷ 187 ∷ 0 ∷ 7 ∷ 0 ∷ 0 ∷ 0 ∷ 10 ∷ 0 ∷ 0 ∷ 0 ∷ 26 ∷ 0 ∷ 0 ∷ 0 ∷ 0
    ∷ 28 ∷ 2 ∷ 90 ∷ 0 ∷ 5 ∷ name
    ++ 0xff ∷ 0xd9 ∷ []

-- the city becomes spaces there, too
nested_city_erased : data_erased Keep (thumbnail_data orientation 50 (nested (codes "Basel")))
    ≡ (thumbnail_data orientation 50 (nested (codes "     ")), [])
unfolding reading erase_patches visited_gps gps_spans gps_offsets gps_pointers all_directories children_from chain_from pointers leftovers directory_offsets located trace ordered_trace walked stream_piece between_piece iptc.erased_by dataset_at
nested_city_erased = refl
