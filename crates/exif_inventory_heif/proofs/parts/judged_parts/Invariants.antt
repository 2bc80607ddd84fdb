use Rattle.std.proofs.Common.{◌≡◌, map, take}
use Rattle.exif_inventory_heif.specs.Spans.{part_of}
use Rattle.exif_inventory_heif.proofs.parts.judged_parts.Given as goal

-- the parts so far
abbrev pub invariant-loop-span : goal.invariant-loop-span
invariant-loop-span l = l.parts.items ≡ map (part_of l.judged) (take l.span-index l.spans)
