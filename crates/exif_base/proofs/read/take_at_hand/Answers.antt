use Rattle.std.proofs.Common.{arith, refl, ◌-◌, ◌∙◌}
use Rattle.exif_base.proofs.ReadSteps.{appended_kept, fetched_count, fetched_more, kept_more, nothing_fetched}
use Rattle.exif_base.proofs.read.take_at_hand.Goals as goal

pub loop-missing-init : goal.loop-missing-init
loop-missing-init g c = record {
  in_range = omega arith;
  taken = fetched_count _ _ _ _ 0 _ (nothing_fetched _ _) (omega arith);
  count = refl;
  stream = refl;
  same = refl;
}

pub returns-in_err-n-clause-kept : goal.returns-in_err-n-clause-kept
returns-in_err-n-clause-kept g c =
    kept_more _ _ _ (appended_kept _ _ _ c.loop-missing.invariant.taken.3) c.take_at_hand.ensures.kept

pub returns-in_err-n-clause-counts : goal.returns-in_err-n-clause-counts
returns-in_err-n-clause-counts g c = record {
  count = c.take_at_hand.ensures.count ∙ c.loop-missing.invariant.count;
  same = c.take_at_hand.ensures.same ∙ c.loop-missing.invariant.same;
}

pub returns-then-n-eq0-clause-taken : goal.returns-then-n-eq0-clause-taken
returns-then-n-eq0-clause-taken g c =
    fetched_more _ _ _ _ _ _ (c.args.most - c.loop-missing.missing) c.in_ok-n.n _
    c.loop-missing.invariant.taken c.in_ok-n.ensures.bytes (omega arith)

pub returns-then-n-eq0-clause-kept : goal.returns-then-n-eq0-clause-kept
returns-then-n-eq0-clause-kept g c =
    kept_more _ _ _ (appended_kept _ _ _ c.loop-missing.invariant.taken.3) c.take_at_hand.ensures.kept

pub returns-then-n-eq0-clause-counts : goal.returns-then-n-eq0-clause-counts
returns-then-n-eq0-clause-counts g c = record {
  count = c.take_at_hand.ensures.count ∙ c.loop-missing.invariant.count;
  same = c.take_at_hand.ensures.same ∙ c.loop-missing.invariant.same;
}

pub loop-missing-preserved : goal.loop-missing-preserved
loop-missing-preserved g c = record {
  in_range = omega arith;
  taken = fetched_more _ _ _ _ _ _ (c.args.most - c.loop-missing.missing) c.in_ok-n.n _
      c.loop-missing.invariant.taken c.in_ok-n.ensures.bytes (omega (arith, c.in_ok-n.ensures.bound));
  count = c.take_at_hand.ensures.count ∙ c.loop-missing.invariant.count;
  stream = c.take_at_hand.ensures.stream ∙ c.loop-missing.invariant.stream;
  same = c.take_at_hand.ensures.same ∙ c.loop-missing.invariant.same;
}

pub returns-clause-taken : goal.returns-clause-taken
returns-clause-taken g c =
    fetched_count _ _ _ _ (c.args.most - c.loop-missing.missing) _ c.loop-missing.invariant.taken (omega arith)

pub returns-clause-kept : goal.returns-clause-kept
returns-clause-kept g c = appended_kept _ _ _ c.loop-missing.invariant.taken.3

pub returns-clause-counts : goal.returns-clause-counts
returns-clause-counts g c = record { count = c.loop-missing.invariant.count; same = c.loop-missing.invariant.same }
