use Rattle.std.proofs.Common.{arith, refl, ◌∙◌}
use Rattle.exif_base.proofs.ReadSteps.{fetched_count, fetched_more, kept_more}
use Rattle.exif_base.proofs.read.read_at_most.Goals as goal

pub returns-in_err-at_hand-clause-kept : goal.returns-in_err-at_hand-clause-kept
returns-in_err-at_hand-clause-kept g c = c.take_at_hand.ensures.kept

pub returns-then-at_hand-most-clause-taken : goal.returns-then-at_hand-most-clause-taken
returns-then-at_hand-most-clause-taken g c =
    fetched_count _ _ _ _ c.in_ok-at_hand.at_hand _ c.in_ok-at_hand.ensures.taken c.if-at_hand-most.true

pub returns-then-at_hand-most-clause-kept : goal.returns-then-at_hand-most-clause-kept
returns-then-at_hand-most-clause-kept g c = c.take_at_hand.ensures.kept

pub returns-then-at_hand-most-clause-counts : goal.returns-then-at_hand-most-clause-counts
returns-then-at_hand-most-clause-counts g c = c.take_at_hand.ensures.counts

pub returns-in_err-behind-clause-kept : goal.returns-in_err-behind-clause-kept
returns-in_err-behind-clause-kept g c = kept_more _ _ _ c.take_at_hand.ensures.kept c.read_by_blocks.ensures.kept

pub returns-clause-taken : goal.returns-clause-taken
returns-clause-taken g c =
    fetched_more _ _ _ _ _ _ c.in_ok-at_hand.at_hand c.in_ok-behind.behind _ c.in_ok-at_hand.ensures.taken c.in_ok-behind.ensures.taken refl

pub returns-clause-bound : goal.returns-clause-bound
returns-clause-bound g c = omega (arith, c.in_ok-at_hand.ensures.bound, c.in_ok-behind.ensures.bound)

pub returns-clause-end : goal.returns-clause-end
returns-clause-end g c = λ less. c.in_ok-behind.ensures.end (omega arith)

pub returns-clause-kept : goal.returns-clause-kept
returns-clause-kept g c = kept_more _ _ _ c.take_at_hand.ensures.kept c.read_by_blocks.ensures.kept

pub returns-clause-counts : goal.returns-clause-counts
returns-clause-counts g c = record {
  count = c.in_ok-behind.ensures.counts.count ∙ c.take_at_hand.ensures.counts.count;
  same = c.in_ok-behind.ensures.counts.same ∙ c.take_at_hand.ensures.counts.same;
}
