-- A worked example: a picture without Exif data gets an orientation.
use Rattle.std.specs.Prelude.{ℕ, ◌≡◌, refl, List, [], ◌∷◌, ◌++◌, codes, Ok, Err}
use Rattle.exif_table.specs.declared.context.Context.TheVariants.{Tiff}
use Rattle.exif_segments.specs.Jpeg.{no_exif_in_jpeg}
use Rattle.exif_containers.specs.Container.{answer_as, container_answer, format_in}
use Rattle.exif_containers.specs.Located.{located_answer, located_as}
use Rattle.exif_layout.specs.Flat.{flat}
use Rattle.exif_layout.specs.Image.{draft_parts, image}
use Rattle.exif_layout.specs.Offsets.{draft_end, exif_offset, exif_values, gps_offset, gps_values, interop_offset, interop_values, jpeg_offset, strips_offset, tiff_offset, tiff_values, tiles_offset}
use Rattle.exif_layout.specs.Refused.{group_fault, write_fault}
use Rattle.exif_layout.specs.Slots.{exif_slots, gps_slots, interop_slots, tiff_slots}
use Rattle.exif_edit.specs.InFiles.{file_patches}
use Rattle.exif_inventory.specs.JpegPieces.{stream_piece}
use Rattle.exif_parts.specs.Jpeg.{filtered}
use Rattle.exif_assign.specs.Values.{value_in}
use Rattle.exif_assign.specs.declared.assignment.Assignment.{Assignment}
use Rattle.exif_change.specs.Changed.{whole}
use Rattle.exif_setting.specs.Growing.{grown_file}
use Rattle.exif_setting.specs.Setting.{assigned_fields, set_file}
use Rattle.exif_change_laws.specs.Assigned.{data_of_new, written}
use Rattle.exif_change_laws.specs.Scrubbed.{orientation}

-- what ends a stream: a scan with one byte
abbrev scan : List ℕ
scan = 255 ∷ 218 ∷ 0 ∷ 2 ∷ 7 ∷ 255 ∷ 217 ∷ []

-- without metadata
abbrev bare : List ℕ
bare = 255 ∷ 216 ∷ scan

-- with the orientation 6 alone
abbrev upright : List ℕ
upright =
    255 ∷ 216 ∷ 255 ∷ 225 ∷ 0 ∷ 34 ∷ codes "Exif\0\0MM\0*" ++ 0 ∷ 0 ∷ 0 ∷ 8
    ∷ 0 ∷ 1
    ∷ 1 ∷ 18 ∷ 0 ∷ 3 ∷ 0 ∷ 0 ∷ 0 ∷ 1 ∷ 0 ∷ 6 ∷ 0 ∷ 0
    ∷ 0 ∷ 0 ∷ 0 ∷ 0
    ∷ scan

-- `Orientation=6`
abbrev turned : Assignment
turned = record {
  tag = record { 0 = Tiff; 1 = 0x112 };
  text = record { ref_ptr = (0, 0); now = codes "6" };
}

no_data : container_answer bare ≡ Err no_exif_in_jpeg
unfolding container_answer answer_as format_in
no_data = refl

assigned : assigned_fields bare (turned ∷ []) ≡ Ok (orientation 6 ∷ [], [])
unfolding container_answer answer_as format_in value_in
assigned = refl

sets : set_file (turned ∷ []) bare ≡ Ok (whole upright)
unfolding container_answer answer_as format_in located_answer located_as file_patches value_in grown_file filtered stream_piece image draft_parts tiff_slots exif_slots gps_slots interop_slots tiff_offset exif_offset gps_offset interop_offset tiff_values exif_values gps_values interop_values strips_offset tiles_offset jpeg_offset draft_end write_fault group_fault
sets = refl

reads : container_answer upright ≡ Ok (data_of_new (orientation 6 ∷ []))
unfolding container_answer answer_as format_in image draft_parts tiff_slots exif_slots gps_slots interop_slots tiff_offset exif_offset gps_offset interop_offset tiff_values exif_values gps_values interop_values strips_offset tiles_offset jpeg_offset draft_end
reads = refl

alone : written (orientation 6 ∷ []) ≡ orientation 6 ∷ []
unfolding flat tiff_slots exif_slots gps_slots interop_slots tiff_offset exif_offset gps_offset interop_offset tiff_values exif_values gps_values interop_values strips_offset tiles_offset jpeg_offset draft_end
alone = refl
