use Rattle.std.proofs.Common.{refl, true}
use Rattle.std.proofs.Output.{has_written_append}
use Rattle.exif_decisions.proofs.SummaryLemmas.{after_next}
use Rattle.exif_decisions.proofs.summary.write_list.Goals as goal

pub loop-amount-preserved : goal.loop-amount-preserved
loop-amount-preserved g c plain =
    let before = c.loop-amount.invariant plain in
    let piece = c.in_ok-write_amount.ensures before.1.0.plain (refl {a = true}) in
    (_, (has_written_append _ _ _ _ _ _ before.1.0 piece, after_next _ _ _ _ _ _ _ c.loop-amount-test.true before.1.1))
