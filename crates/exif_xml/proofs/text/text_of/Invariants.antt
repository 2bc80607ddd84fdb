use Rattle.std.proofs.Common.{◌≡◌, ◌+◌, ◌-◌, length}
use Rattle.exif_xml.specs.Refusals.{truncated, walk}
use Rattle.exif_xml.specs.Texts.{text_of, text_step}
use Rattle.exif_xml.proofs.text.text_of.Given as goal

abbrev pub invariant-loop : goal.invariant-loop
invariant-loop l = record {
  rest : walk truncated text_step (length l.input - l.counter) l.here l.out.items l.rest ≡ text_of l.offset l.input;
  within : l.here + length l.rest ≡ l.offset + length l.input;
}
