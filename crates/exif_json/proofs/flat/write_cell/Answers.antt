use Rattle.std.proofs.Common.{refl}
use Rattle.exif_json.proofs.flat.write_cell.Goals as goal

pub returns-in-Decimal : goal.returns-in-Decimal
returns-in-Decimal c = rw c.in-Decimal.is (c.write_decimal.ensures.prints _ refl)

pub returns-in-Degrees : goal.returns-in-Degrees
returns-in-Degrees c = rw c.in-Degrees.is (c.write_decimal-in-Degrees.ensures.prints _ refl)

pub returns-in-Height : goal.returns-in-Height
returns-in-Height c = rw c.in-Height.is (c.write_decimal-in-Height.ensures.prints _ refl)
