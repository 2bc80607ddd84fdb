use Rattle.std.proofs.Common.{◌≡◌, length, arith, ap}
use Rattle.exif_formats.proofs.Cr3Boxes.{box_some}
use Rattle.exif_formats.proofs.raw.cr3.boxes.next_box.Goals as goal

pub slice_bounds-name-end : goal.slice_bounds-name-end
slice_bounds-name-end c =
    let long = box_some c.args.boxes.now _ c.in-Ok.ensures in
    let same : length c.rest-bytes.result.now ≡ length c.args.boxes.now = ap length c.rest-bytes.ensures in
    omega arith
