use Rattle.std.proofs.Common.{◌≡◌, ◌<◌, ◌+◌, ◌-◌, ◌∙◌, ◌++◌, ℕ, length, take, drop, refl, subst, arith}
use Rattle.std.proofs.lemmas.List.{length-set}
use Rattle.exif_edit_base.specs.Patches.{put_back, swapped_back}
use Rattle.exif_edit_base.specs.declared.patch.Patch.{Patch}
use Rattle.exif_edit_base.proofs.PutBack.{back_on, exchanged_fit, swapped_back_on}
use Rattle.exif_edit_base.proofs.patch.put_back.Goals as goal

pub loop-i-preserved : goal.loop-i-preserved
loop-i-preserved c =
    let xs = c.loop-i.patches in
    let bytes = c.loop-i.bytes in
    let i = c.loop-i.i - 1 in
    let h : i < length xs = omega (arith, c.loop-i.invariant.within, c.loop-i-test.true) in
    let n : c.loop-i.i ≡ i + 1 = omega (arith, c.loop-i-test.true) in
    let patch = c.exchange_one.new.patch in
    let new = c.exchange_one.new.bytes in
    record {
      within = omega (arith, length-set {A = Patch});
      len = c.exchange_one.ensures.len ∙ c.loop-i.invariant.len;
      fit = exchanged_fit xs _ i c.index-patches-i.result patch bytes new h refl
          c.exchange_one.ensures.taken c.exchange_one.ensures.len c.loop-i.invariant.fit;
      rest = back_on xs _ i c.index-patches-i.result patch bytes new _ h c.index-patches-i.is refl
          c.exchange_one.ensures.value
          (subst (λ (m : ℕ). put_back (take m xs) bytes ≡ put_back c.args.patches.now c.args.bytes.now)
          n c.loop-i.invariant.rest);
      swapped = swapped_back_on xs _ i c.index-patches-i.result patch bytes new _ h
          c.index-patches-i.is refl c.exchange_one.ensures.taken c.exchange_one.ensures.value
          (subst (λ (m : ℕ). swapped_back (take m xs) bytes ++ drop m xs
          ≡ swapped_back c.args.patches.now c.args.bytes.now) n c.loop-i.invariant.swapped);
    }
