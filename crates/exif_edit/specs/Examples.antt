-- Worked examples: the definitions compute what editing gives.
use Rattle.std.specs.Prelude.{ℕ, ◌≡◌, refl, true, false, List, [], ◌∷◌, Ok, Err, codes}
use Rattle.exif_base.specs.Orders.{number_of}
use Rattle.exif_base.specs.declared.endian.Order.TheVariants.{Big}
use Rattle.exif_table.specs.declared.context.Context.TheVariants.{Tiff}
use Rattle.exif_types.specs.declared.value.Value.TheVariants as value
use Rattle.exif_tiff.specs.Trace.{trace, ordered_trace}
use Rattle.exif_edit_base.specs.Causes.{no_field, offset_named, too_long}
use Rattle.exif_edit_base.specs.Finding.{find_answer}
use Rattle.exif_edit_base.specs.GpsOffsets.{all_directories, chain_from, children_from, gps_offsets, gps_pointers, pointers}
use Rattle.exif_edit_base.specs.Readings.{reading}
use Rattle.exif_edit_base.specs.Locations.{directory_offsets, visited_gps, located}
use Rattle.exif_edit.specs.Erasing.{erase_answer, erase_patches, gps_spans}
use Rattle.exif_edit.specs.GpsAlone.{gps_is_unshared}
use Rattle.exif_edit.specs.Sharing.{is_unshared}
use Rattle.exif_edit.specs.Setting.{checked_patches, set_answer, set_patches, value_answer}

-- one description of 7 bytes, behind its directory
abbrev described : List ℕ
described =
    77 ∷ 77 ∷ 0 ∷ 42 ∷ 0 ∷ 0 ∷ 0 ∷ 8
    ∷ 0 ∷ 1
    ∷ 1 ∷ 14 ∷ 0 ∷ 2 ∷ 0 ∷ 0 ∷ 0 ∷ 7 ∷ 0 ∷ 0 ∷ 0 ∷ 26
    ∷ 0 ∷ 0 ∷ 0 ∷ 0
    ∷ 83 ∷ 97 ∷ 109 ∷ 112 ∷ 108 ∷ 101 ∷ 0 ∷ []

-- a shorter one: 5 bytes at the old offset, and zeros behind them
shorter : set_answer described (record { 0 = Tiff; 1 = 0x10e }) (record { 0 = 0 })
    (value.Ascii (codes "Blue" ∷ []))
    ≡ Ok (77 ∷ 77 ∷ 0 ∷ 42 ∷ 0 ∷ 0 ∷ 0 ∷ 8
    ∷ 0 ∷ 1
    ∷ 1 ∷ 14 ∷ 0 ∷ 2 ∷ 0 ∷ 0 ∷ 0 ∷ 5 ∷ 0 ∷ 0 ∷ 0 ∷ 26
    ∷ 0 ∷ 0 ∷ 0 ∷ 0
    ∷ 66 ∷ 108 ∷ 117 ∷ 101 ∷ 0 ∷ 0 ∷ 0 ∷ [])
unfolding set_patches checked_patches find_answer value_answer reading located trace ordered_trace
shorter = refl

-- its entry, at 10, is unshared
alone : is_unshared (number_of Big) described 10 ≡ true
unfolding located trace ordered_trace
alone = refl

-- a description and a maker's name that share one text
abbrev pub sharing : List ℕ
sharing =
    77 ∷ 77 ∷ 0 ∷ 42 ∷ 0 ∷ 0 ∷ 0 ∷ 8
    ∷ 0 ∷ 2
    ∷ 1 ∷ 14 ∷ 0 ∷ 2 ∷ 0 ∷ 0 ∷ 0 ∷ 7 ∷ 0 ∷ 0 ∷ 0 ∷ 38
    ∷ 1 ∷ 15 ∷ 0 ∷ 2 ∷ 0 ∷ 0 ∷ 0 ∷ 7 ∷ 0 ∷ 0 ∷ 0 ∷ 38
    ∷ 0 ∷ 0 ∷ 0 ∷ 0
    ∷ 83 ∷ 97 ∷ 109 ∷ 112 ∷ 108 ∷ 101 ∷ 0 ∷ []

not_alone : is_unshared (number_of Big) sharing 10 ≡ false
unfolding located trace ordered_trace
not_alone = refl

-- one that is in the entry then: its old space is zeros
inline : set_answer described (record { 0 = Tiff; 1 = 0x10e }) (record { 0 = 0 })
    (value.Ascii (codes "Hi" ∷ []))
    ≡ Ok (77 ∷ 77 ∷ 0 ∷ 42 ∷ 0 ∷ 0 ∷ 0 ∷ 8
    ∷ 0 ∷ 1
    ∷ 1 ∷ 14 ∷ 0 ∷ 2 ∷ 0 ∷ 0 ∷ 0 ∷ 3 ∷ 72 ∷ 105 ∷ 0 ∷ 0
    ∷ 0 ∷ 0 ∷ 0 ∷ 0
    ∷ 0 ∷ 0 ∷ 0 ∷ 0 ∷ 0 ∷ 0 ∷ 0 ∷ [])
unfolding set_patches checked_patches find_answer value_answer reading located trace ordered_trace
inline = refl

longer : set_answer described (record { 0 = Tiff; 1 = 0x10e }) (record { 0 = 0 })
    (value.Ascii (codes "Samples" ∷ []))
    ≡ Err too_long
unfolding set_patches checked_patches find_answer value_answer reading located trace ordered_trace
longer = refl

absent : set_answer described (record { 0 = Tiff; 1 = 0x10f }) (record { 0 = 0 }) (value.Ascii [])
    ≡ Err no_field
unfolding set_patches checked_patches find_answer value_answer reading located trace ordered_trace
absent = refl

-- strips may not be moved
strips : set_answer described (record { 0 = Tiff; 1 = 0x111 }) (record { 0 = 0 })
    (value.Long (26 ∷ [])) ≡ Err offset_named
unfolding set_patches
strips = refl

-- one directory with a width and a pointer to a GPS directory at 38, whose one value is at 56
abbrev placed : List ℕ
placed =
    77 ∷ 77 ∷ 0 ∷ 42 ∷ 0 ∷ 0 ∷ 0 ∷ 8
    ∷ 0 ∷ 2
    ∷ 1 ∷ 0 ∷ 0 ∷ 3 ∷ 0 ∷ 0 ∷ 0 ∷ 1 ∷ 0 ∷ 20 ∷ 0 ∷ 0
    ∷ 136 ∷ 37 ∷ 0 ∷ 4 ∷ 0 ∷ 0 ∷ 0 ∷ 1 ∷ 0 ∷ 0 ∷ 0 ∷ 38
    ∷ 0 ∷ 0 ∷ 0 ∷ 0
    ∷ 0 ∷ 1
    ∷ 0 ∷ 18 ∷ 0 ∷ 2 ∷ 0 ∷ 0 ∷ 0 ∷ 7 ∷ 0 ∷ 0 ∷ 0 ∷ 56
    ∷ 0 ∷ 0 ∷ 0 ∷ 0
    ∷ 87 ∷ 71 ∷ 83 ∷ 45 ∷ 56 ∷ 52 ∷ 0
    ∷ 9 ∷ []

-- nothing else is looked at there
gps_alone : gps_is_unshared (number_of Big) placed ≡ true
unfolding visited_gps gps_spans gps_offsets gps_pointers all_directories children_from chain_from pointers directory_offsets trace ordered_trace
gps_alone = refl

-- the directory and its value are zeros, and the byte behind them stays
without_location : erase_answer placed
    ≡ Ok (77 ∷ 77 ∷ 0 ∷ 42 ∷ 0 ∷ 0 ∷ 0 ∷ 8
    ∷ 0 ∷ 2
    ∷ 1 ∷ 0 ∷ 0 ∷ 3 ∷ 0 ∷ 0 ∷ 0 ∷ 1 ∷ 0 ∷ 20 ∷ 0 ∷ 0
    ∷ 136 ∷ 37 ∷ 0 ∷ 4 ∷ 0 ∷ 0 ∷ 0 ∷ 1 ∷ 0 ∷ 0 ∷ 0 ∷ 38
    ∷ 0 ∷ 0 ∷ 0 ∷ 0
    ∷ 0 ∷ 0
    ∷ 0 ∷ 0 ∷ 0 ∷ 0 ∷ 0 ∷ 0 ∷ 0 ∷ 0 ∷ 0 ∷ 0 ∷ 0 ∷ 0
    ∷ 0 ∷ 0 ∷ 0 ∷ 0
    ∷ 0 ∷ 0 ∷ 0 ∷ 0 ∷ 0 ∷ 0 ∷ 0
    ∷ 9 ∷ [])
unfolding erase_patches reading visited_gps gps_spans gps_offsets gps_pointers all_directories children_from chain_from pointers directory_offsets trace ordered_trace
without_location = refl

-- a pointer of type IFD in a SubIFD, to which reading does not go: the GPS directory is at 44
abbrev hidden : List ℕ
hidden =
    77 ∷ 77 ∷ 0 ∷ 42 ∷ 0 ∷ 0 ∷ 0 ∷ 8
    ∷ 0 ∷ 1
    ∷ 1 ∷ 74 ∷ 0 ∷ 4 ∷ 0 ∷ 0 ∷ 0 ∷ 1 ∷ 0 ∷ 0 ∷ 0 ∷ 26
    ∷ 0 ∷ 0 ∷ 0 ∷ 0
    ∷ 0 ∷ 1
    ∷ 136 ∷ 37 ∷ 0 ∷ 13 ∷ 0 ∷ 0 ∷ 0 ∷ 1 ∷ 0 ∷ 0 ∷ 0 ∷ 44
    ∷ 0 ∷ 0 ∷ 0 ∷ 0
    ∷ 0 ∷ 1
    ∷ 0 ∷ 27 ∷ 0 ∷ 129 ∷ 0 ∷ 0 ∷ 0 ∷ 6 ∷ 0 ∷ 0 ∷ 0 ∷ 62
    ∷ 0 ∷ 0 ∷ 0 ∷ 0
    ∷ 77 ∷ 65 ∷ 78 ∷ 85 ∷ 65 ∷ []

-- it is zeros, and so is what is there of its text of six bytes, of type UTF-8
without_hidden : erase_answer hidden
    ≡ Ok (77 ∷ 77 ∷ 0 ∷ 42 ∷ 0 ∷ 0 ∷ 0 ∷ 8
    ∷ 0 ∷ 1
    ∷ 1 ∷ 74 ∷ 0 ∷ 4 ∷ 0 ∷ 0 ∷ 0 ∷ 1 ∷ 0 ∷ 0 ∷ 0 ∷ 26
    ∷ 0 ∷ 0 ∷ 0 ∷ 0
    ∷ 0 ∷ 1
    ∷ 136 ∷ 37 ∷ 0 ∷ 13 ∷ 0 ∷ 0 ∷ 0 ∷ 1 ∷ 0 ∷ 0 ∷ 0 ∷ 44
    ∷ 0 ∷ 0 ∷ 0 ∷ 0
    ∷ 0 ∷ 0
    ∷ 0 ∷ 0 ∷ 0 ∷ 0 ∷ 0 ∷ 0 ∷ 0 ∷ 0 ∷ 0 ∷ 0 ∷ 0 ∷ 0
    ∷ 0 ∷ 0 ∷ 0 ∷ 0
    ∷ 0 ∷ 0 ∷ 0 ∷ 0 ∷ 0 ∷ [])
unfolding erase_patches reading visited_gps gps_spans gps_offsets gps_pointers all_directories children_from chain_from pointers directory_offsets trace ordered_trace
without_hidden = refl
