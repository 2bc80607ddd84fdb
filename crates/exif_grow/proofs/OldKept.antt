-- What grown data keep of the old ones.
use Rattle.std.proofs.Common.{ℕ, List, length, All, arith, length-append}
use Rattle.std.proofs.lemmas.List.Elements.{All-weaker}
use Rattle.exif_edit_base.specs.Patches.{FitsIn, patched}
use Rattle.exif_edit_base.proofs.PatchSteps.{Misses, length-patched, outside_offset}
use Rattle.exif_grow.specs.Growing.{Added}
use Rattle.exif_grow.specs.Promises.{KeepsOld, Spares}
use Rattle.exif_grow.proofs.GrowthSteps.{grown_outside}

-- the new data begin with the old ones, but for what the patches cover
pub keeps_old : (a : Added) (bytes : List ℕ) → All (FitsIn (length bytes)) a.patches
    → KeepsOld a bytes
keeps_old a bytes fit = record {
  longer =
      let l = length-patched a.patches bytes fit in
      let m = length-append (patched a.patches bytes) a.tail in
      omega arith;
  outside = λ i h s. grown_outside a bytes i fit h
      (All-weaker (Spares i) (Misses i)
      (λ p e. outside_offset i (record { offset = p.offset; len = length p.bytes }) e) a.patches s);
}
