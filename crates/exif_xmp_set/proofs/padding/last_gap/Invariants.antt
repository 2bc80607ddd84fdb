use Rattle.std.proofs.Common.{◌≡◌, ◌≤◌, drop}
use Rattle.exif_xmp_set.specs.Padding.{last_gap}
use Rattle.exif_xmp_set.proofs.padding.last_gap.Given as goal

-- the gap of the bytes that remain is that of all
abbrev pub invariant-loop-i : goal.invariant-loop-i
invariant-loop-i l = record {
  rest : last_gap (record { start = 0; end = 0 }) 0 0 l.bytes ≡ last_gap l.gap l.start l.i (drop l.i l.bytes);
  begun : l.start ≤ l.i;
  order : l.gap.start ≤ l.gap.end;
  within : l.gap.end ≤ l.i;
}
