use Rattle.std.proofs.Common.{◌≡◌, ◌+◌, ◌-◌, length}
use Rattle.exif_xml.specs.Refusals.{truncated, walk}
use Rattle.exif_xml.specs.Attributes.{attributes, next_step}
use Rattle.exif_xml.proofs.attribute.attributes.Given as goal

abbrev pub invariant-loop : goal.invariant-loop
invariant-loop l = record {
  rest : walk truncated next_step (length l.input - l.counter) l.here l.found.items l.rest ≡ attributes l.offset l.input;
  within : l.here + length l.rest ≡ l.offset + length l.input;
}
