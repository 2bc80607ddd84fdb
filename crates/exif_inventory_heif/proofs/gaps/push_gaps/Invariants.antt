use Rattle.std.proofs.Common.{◌≡◌, ◌-◌, ◌++◌}
use Rattle.exif_inventory_heif.specs.Gaps.{gaps_from}
use Rattle.exif_inventory_heif.proofs.gaps.push_gaps.Given as goal

-- what was found, with that of what is left, is all
abbrev pub invariant-loop-at : goal.invariant-loop-at
invariant-loop-at l =
    l.gaps.items ++ gaps_from l.file l.extents l.span.end (l.span.end - l.at) l.at
    ≡ l.fn.gaps.items ++ gaps_from l.file l.extents l.span.end (l.span.end - l.span.content) l.span.content

abbrev pub decreases-loop-at : goal.decreases-loop-at
decreases-loop-at l = l.span.end - l.at
