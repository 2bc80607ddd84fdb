use Rattle.std.proofs.Common.{refl}
use Rattle.exif_json.proofs.Prints.{prints_then, writes_then}
use Rattle.exif_json.proofs.fields.write_contents.Goals as goal

pub returns : goal.returns
returns c =
    prints_then (rw (c.from.ensures, c.type_number.ensures) at c.in_ok-number_member.ensures)
    (writes_then c.in_ok-key.ensures
    (prints_then c.in_ok-write_count.ensures
    (writes_then c.in_ok-key-2.ensures
    (prints_then c.in_ok-write_value.ensures
    (rw (c.with_unit.ensures, c.display_value.ensures) at (c.shown_member.ensures.prints _ refl))))))
