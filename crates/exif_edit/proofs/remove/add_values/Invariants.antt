use Rattle.std.proofs.Common.{◌≡◌, ◌≤◌, ◌<◌, ◌+◌, ◌*◌, ◌-◌, ◌++◌, length, map}
use Rattle.std.specs.List.{filter}
use Rattle.exif_base.specs.Bytes.{spaced}
use Rattle.exif_base.specs.Orders.{number_of}
use Rattle.exif_edit_base.specs.Patches.{zeros_over}
use Rattle.exif_edit_base.specs.Spans.{value_span}
use Rattle.exif_edit.specs.Removing.{has_tag, taken_spans}
use Rattle.exif_edit.proofs.remove.add_values.Given as goal

-- what is left of the entries adds what all of them do
abbrev pub invariant-loop : goal.invariant-loop
invariant-loop l = record {
  space : l.counter < l.count → l.at + 12 * (l.count - l.counter) ≤ length l.bytes;
  bound : l.at ≡ l.offset + 2 + 12 * l.counter;
  rest : l.patches.items
      ++ map zeros_over
      (map (value_span (number_of l.order) l.bytes)
      (filter (has_tag (number_of l.order) l.bytes l.number)
      (spaced l.at 12 (l.count - l.counter))))
      ≡ l.fn.patches.items
      ++ map zeros_over (taken_spans (number_of l.order) l.bytes l.number l.offset);
}
