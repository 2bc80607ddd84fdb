use Rattle.std.proofs.Common.{◌≡◌, ◌+◌, ◌-◌, ◌≤◌, List, ℕ, length, Result, Ok, refl, ap, sym, ◌∙◌, arith, subst}
use Rattle.std.specs.Prelude.{IfOk}
use Rattle.exif_xml.specs.declared.fault.Fault.{Fault}
use Rattle.exif_xml.specs.declared.root.Nested.{Nested}
use Rattle.exif_xml.specs.Roots.{nesting_of, nesting_step}
use Rattle.exif_xml.specs.Refusals.{◌>>=◌, located, truncated, walk}
use Rattle.exif_xml.proofs.Walks.{none_left, some_left, walk_ends, walk_faulty, walk_on, walk_over}
use Rattle.exif_xml.proofs.root.nesting_of.Goals as goal

pub loop-init : goal.loop-init
unfolding nesting_of
loop-init c =
    let e : length c.args.document.now - 0 ≡ length c.args.document.now = omega arith in
    record { rest = rw e refl; within = omega arith; deep = omega arith }

pub returns-then-is_empty : goal.returns-then-is_empty
returns-then-is_empty c = sym (walk_ends truncated nesting_step _ c.loop.here c.loop.nesting c.loop.rest.now _ (none_left _ (sym c.is_empty.ensures ∙ c.if-is_empty.true)) c.loop.invariant.rest)

pub returns-in-Err : goal.returns-in-Err
returns-in-Err c =
    sym (walk_faulty truncated nesting_step (length c.args.document.now) c.loop.counter c.loop.here c.loop.nesting c.loop.rest.now (record { fault = c.in-Err.fault; offset = c.loop.here }) _ c.loop-test.true (some_left _ (sym c.is_empty.ensures ∙ c.if-is_empty.false))
    (ap (λ r. located c.loop.here r >>= λ x. Ok (record { len = x.len; state = x.nesting })) (sym c.nested_at.ensures.value ∙ c.in-Err.is)) c.loop.invariant.rest)

pub loop-preserved : goal.loop-preserved
loop-preserved c =
    let here = c.loop.here in
    let next = c.in-Ok.next in
    let deep : next.nesting.depth ≤ c.loop.nesting.depth + next.len =
    subst (λ (r : Result Nested Fault). IfOk r (λ x. x.nesting.depth ≤ c.loop.nesting.depth + x.len)) c.in-Ok.is c.nested_at.ensures.deep in
    let step : nesting_step here c.loop.nesting c.loop.rest.now ≡ Ok (record { len = next.len; state = next.nesting }) =
    ap (λ r. located here r >>= λ x. Ok (record { len = x.len; state = x.nesting })) (sym c.nested_at.ensures.value ∙ c.in-Ok.is) in
    record {
      rest = subst (λ (r : List ℕ). walk truncated nesting_step (length c.args.document.now - (c.loop.counter + 1)) (here + next.len) next.nesting r ≡ nesting_of c.args.document.now) (sym c.split_at.ensures.back)
          (walk_on truncated nesting_step (length c.args.document.now) c.loop.counter here c.loop.nesting c.loop.rest.now (record { len = next.len; state = next.nesting }) _ c.loop-test.true (some_left _ (sym c.is_empty.ensures ∙ c.if-is_empty.false)) step c.loop.invariant.rest);
      within = omega arith;
      deep = omega (arith, deep);
    }

pub returns-then-is_empty-2 : goal.returns-then-is_empty-2
returns-then-is_empty-2 c = sym (walk_ends truncated nesting_step _ c.loop.here c.loop.nesting c.loop.rest.now _ (none_left _ (sym c.is_empty-2.ensures ∙ c.if-is_empty-2.true)) c.loop.invariant.rest)

pub returns : goal.returns
returns c = sym (walk_over truncated nesting_step (length c.args.document.now) c.loop.counter c.loop.here c.loop.nesting c.loop.rest.now _ c.loop-test.false (some_left _ (sym c.is_empty-2.ensures ∙ c.if-is_empty-2.false)) c.loop.invariant.rest)
