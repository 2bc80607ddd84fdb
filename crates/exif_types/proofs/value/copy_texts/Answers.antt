use Rattle.std.proofs.Common.{◌∙◌}
use Rattle.std.proofs.lemmas.List.{take_all, take_more}
use Rattle.exif_types.proofs.value.copy_texts.Goals as goal

pub loop-text-init : goal.loop-text-init
loop-text-init c = c.in_ok-copy.ensures.items

pub loop-text-preserved : goal.loop-text-preserved
loop-text-preserved c =
    let more = take_more c.as_slice-texts.result.now c.loop-text.text-index c.text-item.result c.loop-text-test.true in
    cc (more, c.loop-text.invariant, c.in_ok-push.ensures.items, c.in_ok-clone.ensures, c.text-item.is)

pub returns : goal.returns
returns c =
    let all = take_all c.loop-text.text-index c.as_slice-texts.result.now c.loop-text-test.false in
    c.from_vec.ensures ∙ c.loop-text.invariant ∙ all ∙ c.as_slice-texts.ensures
