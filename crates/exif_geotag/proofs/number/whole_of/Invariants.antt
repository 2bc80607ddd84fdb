use Rattle.std.proofs.Common.{◌≡◌, ◌^◌, ◌<◌, drop}
use Rattle.exif_geotag.specs.Numbers.{whole_of}
use Rattle.exif_geotag.proofs.number.whole_of.Given as goal

-- the bytes that are left make the same number
abbrev pub invariant-loop-at : goal.invariant-loop-at
invariant-loop-at l = record {
  rest : whole_of l.scale (drop l.at l.text) l.number ≡ whole_of l.scale l.text 0;
  small : l.number < 2 ^ 32;
}
