use Rattle.exif_json.proofs.Prints.{parts_then}
use Rattle.exif_json.proofs.summary.write_standing.Goals as goal

pub returns : goal.returns
returns c =
    parts_then _ _ (rw c.find_orientation.ensures at c.in_ok-write_number.ensures) (rw (c.find_date.ensures, c.find_fraction.ensures) at c.write_date.ensures)
