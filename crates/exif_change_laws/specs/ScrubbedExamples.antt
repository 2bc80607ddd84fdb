-- Worked examples: a picture without its metadata, and with its orientation alone.
use Rattle.std.specs.Prelude.{ℕ, ◌≡◌, refl, List, [], ◌∷◌, ◌++◌, codes, Ok, Err}
use Rattle.exif_base.specs.declared.endian.Order.TheVariants.{Big}
use Rattle.exif_tiff.specs.Answers.{raw_answer}
use Rattle.exif_tiff.specs.Trace.{ordered_trace}
use Rattle.exif_segments.specs.Jpeg.{no_exif_in_jpeg}
use Rattle.exif_containers.specs.Container.{answer_as, container_answer, format_in}
use Rattle.exif_layout.specs.Image.{draft_parts, image}
use Rattle.exif_layout.specs.Offsets.{draft_end, exif_offset, exif_values, gps_offset, gps_values, interop_offset, interop_values, jpeg_offset, strips_offset, tiff_offset, tiff_values, tiles_offset}
use Rattle.exif_layout.specs.Refused.{group_fault, write_fault}
use Rattle.exif_layout.specs.Slots.{exif_slots, gps_slots, interop_slots, tiff_slots}
use Rattle.exif_inventory.specs.JpegPieces.{between_piece, stream_piece}
use Rattle.exif_inventory.specs.Walks.{walked}
use Rattle.exif_lengths.specs.Walks.{split}
use Rattle.exif_parts.specs.Jpeg.{filtered}
use Rattle.exif_change.specs.Changed.{whole}
use Rattle.exif_change.specs.Changes.{scrubbed}
use Rattle.exif_change.specs.Reading.{data_contents, file_contents}
use Rattle.exif_change.specs.declared.scrubbing.Removed.TheVariants.{AllButOrientation, Metadata}
use Rattle.exif_change_laws.specs.Scrubbed.{orientation_alone}

-- what ends a stream: a scan of one component, with one byte
abbrev scan : List ℕ
scan = 255 ∷ 218 ∷ 0 ∷ 8 ∷ 1 ∷ 1 ∷ 0 ∷ 0 ∷ 63 ∷ 0 ∷ 7 ∷ 255 ∷ 217 ∷ []

-- a stream with a description, the orientation 6 and a comment
abbrev picture : List ℕ
picture =
    255 ∷ 216 ∷ 255 ∷ 225 ∷ 0 ∷ 46 ∷ codes "Exif\0\0MM\0*" ++ 0 ∷ 0 ∷ 0 ∷ 8
    ∷ 0 ∷ 2
    ∷ 1 ∷ 14 ∷ 0 ∷ 2 ∷ 0 ∷ 0 ∷ 0 ∷ 3 ∷ 97 ∷ 98 ∷ 0 ∷ 0
    ∷ 1 ∷ 18 ∷ 0 ∷ 3 ∷ 0 ∷ 0 ∷ 0 ∷ 1 ∷ 0 ∷ 6 ∷ 0 ∷ 0
    ∷ 0 ∷ 0 ∷ 0 ∷ 0
    ∷ 255 ∷ 254 ∷ 0 ∷ 4 ∷ 104 ∷ 105 ∷ scan

-- the same with the orientation alone
abbrev upright : List ℕ
upright =
    255 ∷ 216 ∷ 255 ∷ 225 ∷ 0 ∷ 34 ∷ codes "Exif\0\0MM\0*" ++ 0 ∷ 0 ∷ 0 ∷ 8
    ∷ 0 ∷ 1
    ∷ 1 ∷ 18 ∷ 0 ∷ 3 ∷ 0 ∷ 0 ∷ 0 ∷ 1 ∷ 0 ∷ 6 ∷ 0 ∷ 0
    ∷ 0 ∷ 0 ∷ 0 ∷ 0
    ∷ scan

-- without metadata
abbrev bare : List ℕ
bare = 255 ∷ 216 ∷ scan

scrubs : scrubbed Metadata picture ≡ Ok (whole bare)
unfolding filtered walked split between_piece stream_piece container_answer answer_as format_in
scrubs = refl

nothing_read : file_contents bare ≡ Err no_exif_in_jpeg
unfolding container_answer answer_as format_in
nothing_read = refl

keeps : scrubbed AllButOrientation picture ≡ Ok (whole upright)
unfolding filtered walked split between_piece stream_piece container_answer answer_as format_in data_contents raw_answer ordered_trace image draft_parts tiff_slots exif_slots gps_slots interop_slots tiff_offset exif_offset gps_offset interop_offset tiff_values exif_values gps_values interop_values strips_offset tiles_offset jpeg_offset draft_end write_fault group_fault
keeps = refl

told : file_contents upright ≡ Ok (orientation_alone Big 6)
unfolding container_answer answer_as format_in data_contents raw_answer ordered_trace image draft_parts tiff_slots exif_slots gps_slots interop_slots tiff_offset exif_offset gps_offset interop_offset tiff_values exif_values gps_values interop_values strips_offset tiles_offset jpeg_offset draft_end
told = refl
