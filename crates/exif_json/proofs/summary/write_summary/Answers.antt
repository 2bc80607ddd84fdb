use Rattle.exif_json.proofs.Prints.{object_of, parts_then, prints_of, prints_same, prints_then, writes_then}
use Rattle.exif_json.proofs.summary.write_summary.Goals as goal

pub returns : goal.returns
returns c =
    prints_same (object_of _)
    (writes_then c.in_ok-begin_object.ensures
    (prints_then (parts_then _ _ c.in_ok-write_standing.ensures (parts_then _ _ c.in_ok-write_location.ensures (parts_then _ _ c.in_ok-write_camera.ensures c.in_ok-write_size.ensures)))
    (prints_of c.end_object.ensures)))
