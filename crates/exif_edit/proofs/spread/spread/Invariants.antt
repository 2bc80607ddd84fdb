use Rattle.std.proofs.Common.{◌≡◌, ◌++◌, drop}
use Rattle.exif_edit.specs.Spreading.{spread}
use Rattle.exif_edit.proofs.spread.spread.Given as goal

-- the patches that are left are still to be spread
abbrev pub invariant-loop-patch : goal.invariant-loop-patch
invariant-loop-patch l =
    l.all.items ++ spread l.extents (drop l.patch-index l.patches) ≡ spread l.extents l.patches
