use Rattle.std.proofs.Common.{◌≡◌, ◌++◌, drop}
use Rattle.exif_edit.specs.Spreading.{spread_one}
use Rattle.exif_edit.proofs.spread.add_spread.Given as goal

-- the rest of the patch is still to be spread over the extents that are left
abbrev pub invariant-loop-extent : goal.invariant-loop-extent
invariant-loop-extent l =
    l.spread.items
    ++ spread_one (drop l.extent-index l.extents) (record { offset = l.offset; bytes = l.bytes })
    ≡ l.fn.spread.items ++ spread_one l.extents l.patch
