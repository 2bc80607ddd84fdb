use Rattle.std.proofs.lemmas.Grind.{common_steps}
use Rattle.std.proofs.Common.{◌≡◌, ap, ◌∙◌, refl, arith, length, rules, take}
use Rattle.std.proofs.lemmas.List.{take_all}
use Rattle.exif_types.proofs.ValueLemmas.{ended_within}
use Rattle.exif_types.specs.Texts.{ended_length}
use Rattle.exif_types.proofs.value.ended_length.Goals as goal

pub returns-in_err-length : goal.returns-in_err-length
returns-in_err-length c =
    let whole = ap ended_length c.as_slice-text-items.ensures in
    let front = ap (λ r. ended_length (take c.loop-text.text-index r)) c.as_slice-text-items.ensures in
    let item = ap length c.as_slice.ensures in
    let room = ended_within c.as_slice-text-items.result.now c.loop-text.text-index c.text-item.result c.text-item.result c.loop-text-test.true c.text-item.is in
    search rules

pub loop-text-init : goal.loop-text-init
loop-text-init c = record { sum = refl; fits = omega arith }

pub loop-text-preserved : goal.loop-text-preserved
loop-text-preserved c = grind (arith, common_steps)

pub returns : goal.returns
returns c =
    let behind = rw c.as_slice-text-items.ensures at c.loop-text-test.false in
    let whole : c.loop-text.length ≡ ended_length c.args.texts.now
    = c.loop-text.invariant.sum ∙ ap ended_length (take_all c.loop-text.text-index c.args.texts.now behind) in
    (rw (← whole) c.loop-text.invariant.fits, whole)
