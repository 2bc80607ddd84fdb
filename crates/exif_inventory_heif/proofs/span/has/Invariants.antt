use Rattle.std.proofs.Common.{◌≡◌, drop}
use Rattle.exif_inventory_heif.specs.Spans.{has}
use Rattle.exif_inventory_heif.proofs.span.has.Given as goal

-- those that are left decide
abbrev pub invariant-loop-span : goal.invariant-loop-span
invariant-loop-span l = has l.wanted (drop l.span-index l.spans) ≡ has l.wanted l.spans
