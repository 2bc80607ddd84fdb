use Rattle.exif_json.proofs.Prints.{prints_then}
use Rattle.exif_check.proofs.object.write_members.Goals as goal

pub returns : goal.returns
returns c =
    prints_then (rw c.kind_name.ensures at c.in_ok-text_member.ensures)
    (prints_then c.in_ok-number_member.ensures
    (prints_then c.in_ok-number_member-2.ensures
    (prints_then c.in_ok-number_member-3.ensures (rw c.part_location_name.ensures at c.text_member-2.ensures))))
