use Rattle.std.proofs.Common.{◌≡◌, ◌≤◌, ◌++◌, All, length, drop, take}
use Rattle.exif_edit_base.specs.Patches.{FitsIn, put_back, swapped_back}
use Rattle.exif_edit_base.proofs.patch.put_back.Given as goal

-- those before the index are to be exchanged yet
abbrev pub invariant-loop-i : goal.invariant-loop-i
invariant-loop-i l = record {
  within : l.i ≤ length l.patches;
  len : length l.bytes ≡ length l.fn.bytes;
  fit : All (FitsIn (length l.bytes)) l.patches;
  rest : put_back (take l.i l.patches) l.bytes ≡ put_back l.fn.patches l.fn.bytes;
  swapped : swapped_back (take l.i l.patches) l.bytes ++ drop l.i l.patches
      ≡ swapped_back l.fn.patches l.fn.bytes;
}

abbrev pub decreases-loop-i : goal.decreases-loop-i
decreases-loop-i l = l.i
