use Rattle.std.proofs.Common.{◌≡◌, ◌||◌, Bool, true, false, Ok, Err, refl, ap, sym, ◌∙◌, arith, drop}
use Rattle.exif_locations.specs.XmpErasing.{step_at}
use Rattle.exif_locations.proofs.XmpWalkSteps.{found_faulty, found_next, found_over, from_here, goes_deep, goes_within}
use Rattle.exif_locations.proofs.xmp.erase.find.Goals as goal
use Rattle.exif_locations.proofs.xmp.erase.find.Goals.{then-next, else-next}

pub loop-at-preserved : goal.loop-at-preserved
loop-at-preserved c =
    let p = c.args.packet.now in
    let at = c.loop-at.at in
    let s = c.loop-at.state in
    let t = c.in-Ok.next in
    let e : step_at s (drop at p) ≡ Ok t = from_here p at s (Ok t) (sym c.next_step.ensures.value ∙ c.in-Ok.is) in
    let g : c.if-next.found ≡ (t.blank || c.loop-at.found) =
    elim c.if-next.branch [
      | then-next w ↦ w.found-is ∙ ap (λ b. b || c.loop-at.found) (sym w.if-next.true)
      | else-next w ↦ w.found-is ∙ ap (λ b. b || c.loop-at.found) (sym w.if-next.false)
    ] in
    record {
      rest = found_next p at s t c.loop-at.found c.if-next.found _ c.loop-at-test.true e g c.loop-at.invariant.rest;
      within = goes_within p at s t c.loop-at-test.true e;
      depth = goes_deep p at s t c.loop-at-test.true c.loop-at.invariant.depth e;
    }

pub returns-in-Err : goal.returns-in-Err
returns-in-Err c =
    let p = c.args.packet.now in
    let at = c.loop-at.at in
    let s = c.loop-at.state in
    sym (found_faulty p at s c.in-Err.fault c.loop-at.found _ c.loop-at-test.true (from_here p at s (Err c.in-Err.fault) (sym c.next_step.ensures.value ∙ c.in-Err.is)) c.loop-at.invariant.rest)

pub returns-then-not-may_end : goal.returns-then-not-may_end
returns-then-not-may_end c = sym (found_over c.args.packet.now c.loop-at.at c.loop-at.state c.loop-at.found false _ (omega arith) (sym c.may_end.ensures ∙ c.if-not-may_end.true) c.loop-at.invariant.rest)

pub returns : goal.returns
returns c = sym (found_over c.args.packet.now c.loop-at.at c.loop-at.state c.loop-at.found true _ (omega arith) (sym c.may_end.ensures ∙ c.if-not-may_end.false) c.loop-at.invariant.rest ∙ ap Ok (or_false c.loop-at.found))
  where
    or_false : (b : Bool) → (b || false) ≡ b
    or_false true = refl
    or_false false = refl
