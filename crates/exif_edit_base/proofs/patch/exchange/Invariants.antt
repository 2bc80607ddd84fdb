use Rattle.std.proofs.Common.{◌≡◌, ◌++◌, All, length, drop, take}
use Rattle.exif_edit_base.specs.Patches.{FitsIn, patched, swapped}
use Rattle.exif_edit_base.proofs.patch.exchange.Given as goal

-- those behind the index are to be exchanged yet
abbrev pub invariant-loop-patch : goal.invariant-loop-patch
invariant-loop-patch l = record {
  len : length l.bytes ≡ length l.fn.bytes;
  fit : All (FitsIn (length l.bytes)) l.patches;
  rest : patched (drop l.patch-index l.patches) l.bytes ≡ patched l.fn.patches l.fn.bytes;
  swapped : take l.patch-index l.patches ++ swapped (drop l.patch-index l.patches) l.bytes
      ≡ swapped l.fn.patches l.fn.bytes;
}
