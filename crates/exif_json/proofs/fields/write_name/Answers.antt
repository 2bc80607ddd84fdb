use Rattle.std.proofs.Common.{refl}
use Rattle.exif_json.proofs.Prints.{prints_then}
use Rattle.exif_json.proofs.fields.write_name.Goals as goal

pub returns : goal.returns
returns c =
    prints_then (rw (c.name.ensures.name, c.context.ensures) at c.in_ok-text_member.ensures)
    (prints_then (rw (c.from.ensures, c.number.ensures) at c.in_ok-number_member.ensures)
    (prints_then (c.in_ok-shown_member.ensures.prints _ refl) (rw (c.from-2.ensures, c.index.ensures) at c.number_member-2.ensures)))
