use Rattle.std.proofs.Common.{◌≡◌, length, drop}
use Rattle.exif_edit_base.specs.Patches.{patched}
use Rattle.exif_edit_base.proofs.patch.apply.Given as goal

abbrev pub invariant-loop-patch : goal.invariant-loop-patch
invariant-loop-patch l = record {
  len : length l.bytes ≡ length l.fn.bytes;
  rest : patched (drop l.patch-index l.patches) l.bytes ≡ patched l.patches l.fn.bytes;
}
