use Rattle.std.proofs.Common.{◌≡◌, ◌+◌, ◌≤◌, drop}
use Rattle.std.specs.Option.{option_map}
use Rattle.exif_xml.specs.Scans.{closed_len}
use Rattle.exif_xml.proofs.scan.closed_len.Given as goal

abbrev pub invariant-loop-i : goal.invariant-loop-i
invariant-loop-i l = record {
  rest : closed_len l.c l.count 0 l.input ≡ option_map (λ n. l.i + n) (closed_len l.c l.count l.seen (drop l.i l.input));
  seen : l.seen ≤ l.i;
}
