use Rattle.std.proofs.Common.{◌≡◌, ◌≤◌, ◌<◌, ◌+◌, ◌*◌, ◌-◌, ◌++◌, length}
use Rattle.std.specs.Prelude.{not}
use Rattle.std.specs.List.{filter}
use Rattle.exif_base.specs.Bytes.{spaced}
use Rattle.exif_base.specs.Orders.{number_of}
use Rattle.exif_edit.specs.Removing.{entries_bytes, has_tag}
use Rattle.exif_edit.proofs.remove.entries_without.Given as goal

-- what is left of the entries keeps what all of them do
abbrev pub invariant-loop : goal.invariant-loop
invariant-loop l = record {
  space : l.counter < l.count → l.at + 12 * (l.count - l.counter) ≤ length l.bytes;
  bound : l.at ≡ l.first + 12 * l.counter;
  few : l.kept.count ≤ l.counter;
  count : l.kept.count + length
      (filter (λ e. not (has_tag (number_of l.order) l.bytes l.number e))
      (spaced l.at 12 (l.count - l.counter)))
      ≡ length (filter (λ e. not (has_tag (number_of l.order) l.bytes l.number e))
      (spaced l.first 12 l.count));
  encoded : l.kept.encoded.items
      ++ entries_bytes l.bytes
      (filter (λ e. not (has_tag (number_of l.order) l.bytes l.number e))
      (spaced l.at 12 (l.count - l.counter)))
      ≡ entries_bytes l.bytes
      (filter (λ e. not (has_tag (number_of l.order) l.bytes l.number e))
      (spaced l.first 12 l.count));
}
