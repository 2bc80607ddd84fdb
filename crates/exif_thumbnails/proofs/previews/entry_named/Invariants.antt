use Rattle.std.proofs.Common.{◌≡◌, ◌≤◌, ◌<◌, ◌+◌, ◌*◌, ◌-◌, ◌==◌, length}
use Rattle.std.specs.List.{find}
use Rattle.exif_base.specs.Bytes.{number_at, spaced}
use Rattle.exif_base.specs.Orders.{number_of}
use Rattle.exif_thumbnails.specs.Previews.{entry_named}
use Rattle.exif_thumbnails.proofs.previews.entry_named.Given as goal

-- the first of the entries that are left is that of all
abbrev pub invariant-loop : goal.invariant-loop
invariant-loop l = record {
  space : l.counter < l.end → l.at + 12 * (l.end - l.counter) ≤ length l.bytes;
  rest : find (λ e. number_at (number_of l.order) 2 l.bytes e == l.tag)
      (spaced l.at 12 (l.end - l.counter))
      ≡ entry_named (number_of l.order) l.bytes l.directory l.tag;
}
