use Rattle.exif_edit_base.specs.GpsOffsets.{gps_offsets, gps_pointers}
use Rattle.exif_edit_base.proofs.offsets.gps_offsets.Goals as goal

pub returns : goal.returns
unfolding gps_offsets gps_pointers
returns c =
    cc (
      c.in_ok-note_all.ensures,
      c.as_slice-2.ensures.value,
      c.in_ok-pointers.ensures,
      c.as_slice.ensures.value,
      c.in_ok-directories.ensures,
      c.in_ok-found.ensures.items,
      c.requires.visited,
    )
