use Rattle.std.proofs.lemmas.Grind.{common_steps}
use Rattle.std.proofs.Common.{arith, length, rules, ◌-◌}
use Rattle.exif_base.proofs.ReadSteps.{consumes_append, take_filled}
use Rattle.exif_base.proofs.read.read_front.Goals as goal

pub loop-at-preserved : goal.loop-at-preserved
loop-at-preserved g c = record {
  in_range = search rules;
  taken = rw (take_filled c.loop-at.at (length c.loop-at.buf - c.loop-at.at) c.in_ok-n.n c.loop-at.buf c.fetch.new.buf c.loop-at.invariant.in_range c.in_ok-n.ensures.bound.0)
      (consumes_append _ _ _ _ _ c.loop-at.invariant.taken c.in_ok-n.ensures.bytes.0);
  count = search rules;
  stream = search rules;
  same = search rules;
}

pub returns-then-n-eq0-clause-taken : goal.returns-then-n-eq0-clause-taken
returns-then-n-eq0-clause-taken g c = grind (arith, common_steps)
