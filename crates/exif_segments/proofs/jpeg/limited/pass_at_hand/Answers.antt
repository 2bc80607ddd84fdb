use Rattle.std.proofs.Common.{◌-◌, arith}
use Rattle.exif_segments.proofs.LimitedMoves.{passes_marks}
use Rattle.exif_segments.proofs.jpeg.limited.pass_at_hand.Goals as goal

pub returns-clause-taken : goal.returns-clause-taken
returns-clause-taken g c =
    passes_marks _ _ c.args.budget.now (c.args.budget.now - c.pass_others-passed.result) c.pass_others-passed.result c.pass_others-passed.ensures.passed (omega (arith, c.pass_others-passed.ensures.bound))
