use Rattle.std.proofs.Common.{◌≡◌, ◌+◌, ◌≤◌, drop}
use Rattle.std.specs.Option.{option_map}
use Rattle.exif_locations.specs.XmpScans.{ended}
use Rattle.exif_locations.proofs.xmp.scan.ended.Given as goal

abbrev pub invariant-loop-i : goal.invariant-loop-i
invariant-loop-i l = record {
  rest : ended l.c l.count 0 l.input ≡ option_map (λ n. l.i + n) (ended l.c l.count l.seen (drop l.i l.input));
  seen : l.seen ≤ l.i;
}
