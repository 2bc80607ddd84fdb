use Rattle.std.proofs.Common.{◌≡◌, ◌+◌, ◌-◌, List, ℕ, length, Ok, refl, ap, sym, ◌∙◌, arith, subst}
use Rattle.exif_xmp.specs.Reading.{read_all, read_step, token_step}
use Rattle.exif_xmp.specs.States.{state_view}
use Rattle.exif_xmp.specs.declared.fault.Fault.TheVariants as faults
use Rattle.exif_xmp.specs.declared.fault.ReadError.{ReadError}
use Rattle.exif_xml.specs.Refusals.{◌>>=◌, walk}
use Rattle.exif_xmp.specs.Refusals.{Fails, located, of_xml, truncated}
use Rattle.exif_xml.proofs.Walks.{none_left, some_left, walk_ends, walk_faulty, walk_on, walk_over}
use Rattle.exif_xmp.proofs.Steps.{fails_on, walk_fails}
use Rattle.exif_xmp.proofs.reading.read_all.Goals as goal

pub loop-init : goal.loop-init
unfolding read_all
loop-init c =
    let e : length c.args.packet.now - 0 ≡ length c.args.packet.now = omega arith in
    record { rest = rw (e, c.initial_state-state.ensures) refl; within = omega arith }

pub returns-then-is_empty : goal.returns-then-is_empty
returns-then-is_empty c = walk_ends truncated (read_step c.args.packet.now) _ c.loop.here (state_view c.loop.state) c.loop.rest.now _ (none_left _ (sym c.is_empty.ensures ∙ c.if-is_empty.true)) c.loop.invariant.rest

pub returns-in-Err : goal.returns-in-Err
returns-in-Err c =
    subst (λ (e : ReadError). Fails e (read_all c.args.packet.now)) (sym c.refused.ensures)
    (walk_faulty truncated (read_step c.args.packet.now) (length c.args.packet.now) c.loop.counter c.loop.here (state_view c.loop.state) c.loop.rest.now (record { fault = faults.Xml c.in-Err.fault; offset = c.loop.here }) _ c.loop-test.true (some_left _ (sym c.is_empty.ensures ∙ c.if-is_empty.false))
    (ap (λ r. located c.loop.here (of_xml r) >>= λ t. (token_step c.args.packet.now (state_view c.loop.state) c.loop.here t >>= λ u. Ok (record { len = t.len; state = u }))) (sym c.token_at.ensures.value ∙ c.in-Err.is)) c.loop.invariant.rest)

pub returns-in-Err-token_step : goal.returns-in-Err-token_step
returns-in-Err-token_step c =
    let packet = c.args.packet.now in
    let here = c.loop.here in
    let s = state_view c.loop.state in
    let t = c.in-Ok.token in
    let step : read_step packet here s c.loop.rest.now ≡ (token_step packet s here t >>= λ u. Ok (record { len = t.len; state = u })) =
    ap (λ r. located here (of_xml r) >>= λ t. (token_step packet s here t >>= λ u. Ok (record { len = t.len; state = u }))) (sym c.token_at.ensures.value ∙ c.in-Ok.is) in
    walk_fails truncated (read_step packet) (length packet) c.loop.counter here s c.loop.rest.now c.in-Err-token_step.e _ c.loop-test.true (some_left _ (sym c.is_empty.ensures ∙ c.if-is_empty.false))
    (subst (Fails c.in-Err-token_step.e) (sym step) (fails_on c.in-Err-token_step.e (token_step packet s here t) (λ u. Ok (record { len = t.len; state = u })) c.in-Err-token_step.ensures)) c.loop.invariant.rest

pub loop-preserved : goal.loop-preserved
loop-preserved c =
    let packet = c.args.packet.now in
    let here = c.loop.here in
    let s = state_view c.loop.state in
    let t = c.in-Ok.token in
    let n = state_view c.in-Ok-token_step.next in
    let step : read_step packet here s c.loop.rest.now ≡ Ok (record { len = t.len; state = n }) =
    ap (λ r. located here (of_xml r) >>= λ t. (token_step packet s here t >>= λ u. Ok (record { len = t.len; state = u }))) (sym c.token_at.ensures.value ∙ c.in-Ok.is)
    ∙ ap (λ r. r >>= λ u. Ok (record { len = t.len; state = u })) c.in-Ok-token_step.ensures in
    record {
      rest = subst (λ (r : List ℕ). walk truncated (read_step packet) (length packet - (c.loop.counter + 1)) (here + t.len) n r ≡ read_all packet) (sym c.split_at.ensures.back)
          (walk_on truncated (read_step packet) (length packet) c.loop.counter here s c.loop.rest.now (record { len = t.len; state = n }) _ c.loop-test.true (some_left _ (sym c.is_empty.ensures ∙ c.if-is_empty.false)) step c.loop.invariant.rest);
      within = omega arith;
    }

pub returns-then-is_empty-2 : goal.returns-then-is_empty-2
returns-then-is_empty-2 c = walk_ends truncated (read_step c.args.packet.now) _ c.loop.here (state_view c.loop.state) c.loop.rest.now _ (none_left _ (sym c.is_empty-2.ensures ∙ c.if-is_empty-2.true)) c.loop.invariant.rest

pub returns : goal.returns
returns c =
    subst (λ (e : ReadError). Fails e (read_all c.args.packet.now)) (sym c.refused-2.ensures)
    (walk_over truncated (read_step c.args.packet.now) (length c.args.packet.now) c.loop.counter c.loop.here (state_view c.loop.state) c.loop.rest.now _ c.loop-test.false (some_left _ (sym c.is_empty-2.ensures ∙ c.if-is_empty-2.false)) c.loop.invariant.rest)
