use Rattle.std.proofs.Common.{arith}
use Rattle.exif_json.proofs.Numerals.{degrees_number}
use Rattle.exif_json.proofs.summary.print_degrees.Goals as goal

pub number-requires : goal.number-requires
number-requires c =
    rw (c.deref.ensures, c.in-Ok.ensures.bytes, c.clear.ensures.bytes) (degrees_number c.args.degrees.negative c.args.degrees.units (omega arith))
