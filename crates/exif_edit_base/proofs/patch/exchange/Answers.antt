use Rattle.std.proofs.Common.{◌≡◌, ◌≤◌, ◌<◌, ◌∙◌, [], length, drop, refl, sym, ap, arith}
use Rattle.std.proofs.Math.ListN.{drop_of_length-le}
use Rattle.std.proofs.lemmas.List.{append-nil, take_all}
use Rattle.std.proofs.lemmas.List.Elements.{All-get_or}
use Rattle.exif_edit_base.specs.Patches.{FitsIn, patched}
use Rattle.exif_edit_base.proofs.PutBack.{exchanged_fit, patched_on, swapped_on}
use Rattle.exif_edit_base.proofs.patch.exchange.Goals as goal

pub exchange_one-requires : goal.exchange_one-requires
exchange_one-requires c =
    All-get_or (FitsIn (length c.loop-patch.bytes)) c.loop-patch.patches c.loop-patch.patch-index
    c.patch-item.result (omega arith) c.loop-patch.invariant.fit

pub loop-patch-preserved : goal.loop-patch-preserved
loop-patch-preserved c =
    let xs = c.loop-patch.patches in
    let i = c.loop-patch.patch-index in
    let h : i < length xs = omega arith in
    record {
      len = c.exchange_one.ensures.len ∙ c.loop-patch.invariant.len;
      fit = exchanged_fit xs _ i c.patch-item.result c.exchange_one.new.patch c.loop-patch.bytes
          c.exchange_one.new.bytes h refl c.exchange_one.ensures.taken c.exchange_one.ensures.len
          c.loop-patch.invariant.fit;
      rest = patched_on xs _ i c.patch-item.result c.exchange_one.new.patch c.loop-patch.bytes
          c.exchange_one.new.bytes _ h c.patch-item.is refl c.exchange_one.ensures.value
          c.loop-patch.invariant.rest;
      swapped = swapped_on xs _ i c.patch-item.result c.exchange_one.new.patch c.loop-patch.bytes
          c.exchange_one.new.bytes _ h c.patch-item.is refl c.exchange_one.ensures.taken
          c.exchange_one.ensures.value c.loop-patch.invariant.swapped;
    }

pub returns : goal.returns
returns c =
    let xs = c.loop-patch.patches in
    let i = c.loop-patch.patch-index in
    let h : length xs ≤ i = omega arith in
    let d : drop i xs ≡ [] = drop_of_length-le xs h in
    record {
      value = sym (ap (λ ps. patched ps c.loop-patch.bytes) d) ∙ c.loop-patch.invariant.rest;
      len = c.loop-patch.invariant.len;
      swapped = sym (append-nil xs) ∙ (rw (take_all i xs h, d) at c.loop-patch.invariant.swapped);
    }
