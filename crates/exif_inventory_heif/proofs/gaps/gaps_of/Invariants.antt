use Rattle.std.proofs.Common.{◌≡◌, take}
use Rattle.exif_inventory_heif.specs.Gaps.{gaps_of}
use Rattle.exif_inventory_heif.proofs.gaps.gaps_of.Given as goal

-- those of the spans so far
abbrev pub invariant-loop-span : goal.invariant-loop-span
invariant-loop-span l = l.gaps.items ≡ gaps_of l.file l.extents (take l.span-index l.spans)
