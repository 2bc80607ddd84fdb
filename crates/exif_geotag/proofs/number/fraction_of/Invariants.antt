use Rattle.std.proofs.Common.{◌≡◌, ◌+◌, ◌*◌, ◌≤◌, drop}
use Rattle.exif_geotag.specs.Numbers.{fraction_of}
use Rattle.exif_geotag.proofs.number.fraction_of.Given as goal

-- the digits that are left make the same number
abbrev pub invariant-loop-digit : goal.invariant-loop-digit
invariant-loop-digit l = record {
  rest : fraction_of l.unit (drop l.digit-index l.digits) l.number ≡ fraction_of l.fn.unit l.digits l.fn.number;
  most : l.number + 10 * l.unit ≤ l.fn.number + 10 * l.fn.unit;
}
