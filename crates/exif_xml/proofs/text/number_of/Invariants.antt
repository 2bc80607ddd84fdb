use Rattle.std.proofs.Common.{◌≡◌, ◌<◌, drop}
use Rattle.exif_xml.specs.Texts.{number_from}
use Rattle.exif_xml.proofs.text.number_of.Given as goal

abbrev pub invariant-loop-i : goal.invariant-loop-i
invariant-loop-i l = record {
  rest : number_from l.base 0 l.digits ≡ number_from l.base l.value (drop l.i l.digits);
  below : l.value < 1114112;
}
