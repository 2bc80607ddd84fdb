use Rattle.std.proofs.Common.{ap, sym, ◌∙◌, map}
use Rattle.std.proofs.lemmas.List.{take_all, map_more}
use Rattle.exif_types.specs.declared.value.Value.TheVariants.{Ascii}
use Rattle.exif_types.proofs.value.Value.ascii.Goals as goal

pub loop-text-init : goal.loop-text-init
loop-text-init c = c.in_ok-items.ensures.items

pub loop-text-preserved : goal.loop-text-preserved
loop-text-preserved c =
    let more = map_more (λ text. text.now) c.args.texts.now c.loop-text.text-index _ c.loop-text-test.true in
    (rw (c.loop-text.invariant, c.in_ok-from_slice.ensures) at c.in_ok-push.ensures.items) ∙ sym more

pub returns : goal.returns
returns c = ap Ascii (c.from_vec.ensures ∙ c.loop-text.invariant ∙ ap (map (λ text. text.now)) (take_all c.loop-text.text-index c.args.texts.now c.loop-text-test.false))
