use Rattle.std.proofs.Common.{arith, refl, rules, drop, ◌-◌, ◌≤◌, ◌∙◌}
use Rattle.exif_base.proofs.ReadSteps.{appended_kept, fetched_buffer, fetched_count, fetched_none, nothing_fetched}
use Rattle.exif_base.proofs.read.read_by_blocks.Goals as goal

pub loop-missing-init : goal.loop-missing-init
loop-missing-init g c = record {
  in_range = omega arith;
  taken = fetched_count _ _ _ _ 0 _ (nothing_fetched _ _) (omega arith);
  count = refl;
  stream = refl;
  same = refl;
}

pub returns-in_err-n-clause-kept : goal.returns-in_err-n-clause-kept
returns-in_err-n-clause-kept g c = appended_kept _ _ _ c.loop-missing.invariant.taken.3

pub returns-then-n-eq0-clause-taken : goal.returns-then-n-eq0-clause-taken
returns-then-n-eq0-clause-taken g c =
    fetched_none _ _ _ _ _ c.fetch.new.buf _ c.in_ok-n.n c.loop-missing.invariant.taken
    c.in_ok-n.ensures.bytes.0 c.if-n-eq0.true

pub returns-then-n-eq0-clause-kept : goal.returns-then-n-eq0-clause-kept
returns-then-n-eq0-clause-kept g c = appended_kept _ _ _ c.loop-missing.invariant.taken.3

pub returns-then-n-eq0-clause-counts : goal.returns-then-n-eq0-clause-counts
returns-then-n-eq0-clause-counts g c = record {
  count = c.in_ok-n.ensures.count ∙ c.loop-missing.invariant.count;
  same = c.in_ok-n.ensures.same ∙ c.loop-missing.invariant.same;
}

pub returns-in_err-extend_from_slice-clause-kept : goal.returns-in_err-extend_from_slice-clause-kept
returns-in_err-extend_from_slice-clause-kept g c =
    appended_kept _ _ _ (c.in_err-extend_from_slice.ensures.items ∙ c.loop-missing.invariant.taken.3)

pub loop-missing-preserved : goal.loop-missing-preserved
loop-missing-preserved g c =
    let read = c.in_ok-n.ensures in
    let within : c.in_ok-n.n ≤ c.min-room.result = search rules in record {
      in_range = omega arith;
      taken = fetched_buffer _ _ _ _ c.loop-missing.list.items _ c.fetch.new.buf
          (drop c.min-room.result c.loop-missing.block) (c.args.most - c.loop-missing.missing) c.in_ok-n.n _
          c.loop-missing.invariant.taken read.bytes.0 read.bound.0
          c.in_ok-extend_from_slice.ensures.items (omega arith);
      count = read.count ∙ c.loop-missing.invariant.count;
      stream = read.stream ∙ c.loop-missing.invariant.stream;
      same = read.same ∙ c.loop-missing.invariant.same;
    }

pub returns-clause-taken : goal.returns-clause-taken
returns-clause-taken g c =
    fetched_count _ _ _ _ (c.args.most - c.loop-missing.missing) _ c.loop-missing.invariant.taken (omega arith)

pub returns-clause-end : goal.returns-clause-end
returns-clause-end g c = λ less. absurd (omega arith)

pub returns-clause-kept : goal.returns-clause-kept
returns-clause-kept g c = appended_kept _ _ _ c.loop-missing.invariant.taken.3

pub returns-clause-counts : goal.returns-clause-counts
returns-clause-counts g c = record { count = c.loop-missing.invariant.count; same = c.loop-missing.invariant.same }
