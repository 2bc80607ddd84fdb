use Rattle.std.proofs.Common.{◌≡◌, ◌-◌, length, drop, sym, ◌∙◌, arith, length-drop}
use Rattle.exif_packets.specs.Heads.{step_at}
use Rattle.exif_packets.specs.declared.head.Step.TheVariants.{Ends, Goes, Cut}
use Rattle.exif_packets.proofs.Heads.{from_here, head_cut, head_ends, head_goes, head_open, head_over, next_within, some_left}
use Rattle.exif_packets.proofs.head.head_len.Goals as goal

pub returns-then-at-prefix-clause-value : goal.returns-then-at-prefix-clause-value
returns-then-at-prefix-clause-value c =
    let p = c.args.prefix.now in
    let same : c.loop.at ≡ length p = omega (arith, c.if-at-prefix.true) in
    head_open (length p - c.loop.counter) c.loop.at (drop c.loop.at p) _ (omega (arith, length-drop c.loop.at p)) c.loop.invariant.rest

pub returns-in-Ends-clause-value : goal.returns-in-Ends-clause-value
returns-in-Ends-clause-value c =
    let p = c.args.prefix.now in
    let e : step_at (drop c.loop.at p) ≡ Ends c.in-Ends.len = from_here p c.loop.at (Ends c.in-Ends.len) (sym c.in-Ends.is ∙ c.step_at.ensures.value) in
    head_ends (length p) c.loop.counter c.loop.at (drop c.loop.at p) c.in-Ends.len _ c.loop-test.true (some_left p c.loop.at c.loop.invariant.within c.if-at-prefix.false) e c.loop.invariant.rest

pub returns-in-Cut-clause-value : goal.returns-in-Cut-clause-value
returns-in-Cut-clause-value c =
    let p = c.args.prefix.now in
    let e : step_at (drop c.loop.at p) ≡ Cut = from_here p c.loop.at Cut (sym c.in-Cut.is ∙ c.step_at.ensures.value) in
    head_cut (length p) c.loop.counter c.loop.at (drop c.loop.at p) _ c.loop-test.true (some_left p c.loop.at c.loop.invariant.within c.if-at-prefix.false) e c.loop.invariant.rest

pub loop-preserved : goal.loop-preserved
loop-preserved c =
    let p = c.args.prefix.now in
    let len = c.in-Goes.len in
    let e : step_at (drop c.loop.at p) ≡ Goes len = from_here p c.loop.at (Goes len) (sym c.in-Goes.is ∙ c.step_at.ensures.value) in
    record {
      rest = head_goes (length p) c.loop.counter c.loop.at p len _ c.loop-test.true (some_left p c.loop.at c.loop.invariant.within c.if-at-prefix.false) e c.loop.invariant.rest;
      within = next_within p c.loop.at len c.loop.invariant.within c.in-Goes.ensures.within;
    }

pub returns-clause-value : goal.returns-clause-value
returns-clause-value c =
    let p = c.args.prefix.now in
    head_over (length p) c.loop.counter c.loop.at (drop c.loop.at p) _ c.loop-test.false c.loop.invariant.rest
