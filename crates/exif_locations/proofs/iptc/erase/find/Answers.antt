use Rattle.std.proofs.Common.{◌≡◌, ◌||◌, true, false, Ok, Err, ap, sym, ◌∙◌, drop, get_or}
use Rattle.exif_locations.specs.IptcDatasets.{dataset_at}
use Rattle.exif_locations.proofs.IptcWalkSteps.{found_faulty, found_next, found_over, found_padded, from_here, goes_within, none_more, other_byte, zero_byte}
use Rattle.exif_locations.proofs.iptc.erase.find.Goals as goal
use Rattle.exif_locations.proofs.iptc.erase.find.Goals.{then-next, else-next}

pub returns-then-all_zero : goal.returns-then-all_zero
returns-then-all_zero c =
    let p = c.args.input.now in
    let at = c.loop-at.at in
    sym (none_more c.loop-at.found _ (found_padded p at c.loop-at.found true _ c.loop-at-test.true (zero_byte (get_or p at 0) c.if-input-at-eq0.true) (sym c.all_zero.ensures ∙ c.if-all_zero.true) c.loop-at.invariant.rest))

pub returns-then-input-at-eq0 : goal.returns-then-input-at-eq0
returns-then-input-at-eq0 c =
    let p = c.args.input.now in
    let at = c.loop-at.at in
    sym (found_padded p at c.loop-at.found false _ c.loop-at-test.true (zero_byte (get_or p at 0) c.if-input-at-eq0.true) (sym c.all_zero.ensures ∙ c.if-all_zero.false) c.loop-at.invariant.rest)

pub returns-in-Err : goal.returns-in-Err
returns-in-Err c =
    let p = c.args.input.now in
    let at = c.loop-at.at in
    sym (found_faulty p at c.in-Err.fault c.loop-at.found _ c.loop-at-test.true (other_byte (get_or p at 0) c.if-input-at-eq0.false) (from_here p at (Err c.in-Err.fault) (sym c.next_dataset.ensures.value ∙ c.in-Err.is)) c.loop-at.invariant.rest)

pub loop-at-preserved : goal.loop-at-preserved
loop-at-preserved c =
    let p = c.args.input.now in
    let at = c.loop-at.at in
    let d = c.in-Ok.next in
    let e : dataset_at (drop at p) ≡ Ok d = from_here p at (Ok d) (sym c.next_dataset.ensures.value ∙ c.in-Ok.is) in
    let g : c.if-next.found ≡ (d.location || c.loop-at.found) =
    elim c.if-next.branch [
      | then-next w ↦ w.found-is ∙ ap (λ b. b || c.loop-at.found) (sym w.if-next.true)
      | else-next w ↦ w.found-is ∙ ap (λ b. b || c.loop-at.found) (sym w.if-next.false)
    ] in
    record {
      rest = found_next p at d c.loop-at.found c.if-next.found _ c.loop-at-test.true (other_byte (get_or p at 0) c.if-input-at-eq0.false) e g c.loop-at.invariant.rest;
      within = (goes_within p at d c.loop-at-test.true e).1;
    }

pub returns : goal.returns
returns c = sym (found_over c.args.input.now c.loop-at.at c.loop-at.found _ c.loop-at-test.false c.loop-at.invariant.rest)
