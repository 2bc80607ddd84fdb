use Rattle.std.proofs.Common.{◌≡◌, ◌+◌, ◌-◌, List, ℕ, length, Ok, refl, ap, sym, ◌∙◌, arith, subst}
use Rattle.exif_xml.specs.Attributes.{attributes, next_step, with_next}
use Rattle.exif_xml.specs.Refusals.{◌>>=◌, located, truncated, walk}
use Rattle.exif_xml.proofs.Walks.{none_left, ok_is, some_left, walk_ends, walk_faulty, walk_on, walk_over}
use Rattle.exif_xml.proofs.attribute.attributes.Goals as goal

pub loop-init : goal.loop-init
unfolding attributes
loop-init c =
    let e : length c.args.input.now - 0 ≡ length c.args.input.now = omega arith in
    record { rest = rw (e, c.new-found.ensures.items) refl; within = refl }

pub returns-then-is_empty : goal.returns-then-is_empty
returns-then-is_empty c = walk_ends truncated next_step _ c.loop.here c.loop.found.items c.loop.rest.now _ (none_left _ (sym c.is_empty.ensures ∙ c.if-is_empty.true)) c.loop.invariant.rest

pub returns-in-Err : goal.returns-in-Err
returns-in-Err c =
    walk_faulty truncated next_step (length c.args.input.now) c.loop.counter c.loop.here c.loop.found.items c.loop.rest.now (record { fault = c.in-Err.fault; offset = c.loop.here }) _ c.loop-test.true (some_left _ (sym c.is_empty.ensures ∙ c.if-is_empty.false))
    (ap (λ r. located c.loop.here r >>= λ next. Ok (record { len = next.len; state = with_next c.loop.found.items next })) (sym c.next_at.ensures.value ∙ c.in-Err.is)) c.loop.invariant.rest

pub loop-preserved : goal.loop-preserved
loop-preserved c =
    let here = c.loop.here in
    let next = c.in-Ok.next in
    let found = c.in_ok-found.found.items in
    let state : with_next c.loop.found.items next ≡ found = ok_is c.in_ok-found.ensures in
    let step : next_step here c.loop.found.items c.loop.rest.now ≡ Ok (record { len = next.len; state = found }) =
    ap (λ r. located here r >>= λ next. Ok (record { len = next.len; state = with_next c.loop.found.items next })) (sym c.next_at.ensures.value ∙ c.in-Ok.is)
    ∙ ap (λ s. Ok (record { len = next.len; state = s })) state in
    record {
      rest = subst (λ (r : List ℕ). walk truncated next_step (length c.args.input.now - (c.loop.counter + 1)) (here + next.len) found r ≡ attributes c.args.offset c.args.input.now) (sym c.split_at.ensures.back)
          (walk_on truncated next_step (length c.args.input.now) c.loop.counter here c.loop.found.items c.loop.rest.now (record { len = next.len; state = found }) _ c.loop-test.true (some_left _ (sym c.is_empty.ensures ∙ c.if-is_empty.false)) step c.loop.invariant.rest);
      within = omega arith;
    }

pub returns-then-is_empty-2 : goal.returns-then-is_empty-2
returns-then-is_empty-2 c = walk_ends truncated next_step _ c.loop.here c.loop.found.items c.loop.rest.now _ (none_left _ (sym c.is_empty-2.ensures ∙ c.if-is_empty-2.true)) c.loop.invariant.rest

pub returns : goal.returns
returns c = walk_over truncated next_step (length c.args.input.now) c.loop.counter c.loop.here c.loop.found.items c.loop.rest.now _ c.loop-test.false (some_left _ (sym c.is_empty-2.ensures ∙ c.if-is_empty-2.false)) c.loop.invariant.rest
