use Rattle.std.proofs.Common.{◌≡◌, ◌<◌, drop}
use Rattle.exif_datetime.specs.Numbers.{digits_below, number_below}
use Rattle.exif_datetime.proofs.numbers.number_below.Given as goal

-- the digits that are left make the same number
abbrev pub invariant-loop-digit : goal.invariant-loop-digit
invariant-loop-digit l = record {
  read : digits_below l.limit (drop l.digit-index l.digits) l.number ≡ number_below l.limit l.digits;
  small : l.number < l.limit;
}
