use Rattle.std.proofs.Common.{◌≡◌, ◌+◌, ◌-◌, ◌≤◌, length}
use Rattle.exif_xml.specs.Refusals.{truncated, walk}
use Rattle.exif_xml.specs.Roots.{nesting_of, nesting_step}
use Rattle.exif_xml.proofs.root.nesting_of.Given as goal

abbrev pub invariant-loop : goal.invariant-loop
invariant-loop l = record {
  rest : walk truncated nesting_step (length l.document - l.counter) l.here l.nesting l.rest ≡ nesting_of l.document;
  within : l.here + length l.rest ≡ length l.document;
  deep : l.nesting.depth ≤ l.here;
}
