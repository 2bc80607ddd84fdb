use Rattle.std.proofs.Common.{◌≡◌, ◌≤◌, ◌+◌, ◌<◌, ◌++◌, length, take, drop, get_or, Ok, Err, ap, sym, ◌∙◌, arith}
use Rattle.exif_locations.specs.IptcDatasets.{chunk, dataset_at}
use Rattle.exif_locations.proofs.IptcWalkSteps.{blanks, erased_faulty, erased_next, erased_over, erased_padded, from_here, goes_within, other_byte, sized, stays, zero_byte}
use Rattle.exif_locations.proofs.iptc.erase.erase.Goals as goal
use Rattle.exif_locations.proofs.iptc.erase.erase.Goals.{then-next, else-next}

pub returns-then-input-at-eq0 : goal.returns-then-input-at-eq0
returns-then-input-at-eq0 c =
    let p = c.loop-at.input in
    let at = c.loop-at.at in
    let h : at < length p = omega arith in
    erased_padded p at _ h (zero_byte (get_or p at 0) c.if-input-at-eq0.true) c.loop-at.invariant.rest c.requires

pub returns-in_default : goal.returns-in_default
returns-in_default c =
    let p = c.loop-at.input in
    let at = c.loop-at.at in
    let h : at < length p = omega arith in
    absurd (erased_faulty p at c.in_default.field-0 _ h (other_byte (get_or p at 0) c.if-input-at-eq0.false) (from_here p at (Err c.in_default.field-0) (sym c.next_dataset.ensures.value ∙ c.in_default.is)) c.loop-at.invariant.rest c.requires)

pub loop-at-preserved : goal.loop-at-preserved
loop-at-preserved c =
    let p = c.loop-at.input in
    let at = c.loop-at.at in
    let d = c.in-Ok.next in
    let q = c.if-next.input in
    let h : at < length p = omega arith in
    let e : dataset_at (drop at p) ≡ Ok d = from_here p at (Ok d) (sym c.next_dataset.ensures.value ∙ c.in-Ok.is) in
    let s = sized (drop at p) d e in
    let w : at + d.len ≤ length p = (goes_within p at d h e).1 in
    let two : (take (at + d.len) q ≡ take at p ++ chunk d (drop at p)) × (drop (at + d.len) q ≡ drop (at + d.len) p) =
    elim c.if-next.branch [
      | then-next v ↦ blanks p q at d s.0 w v.if-next.true (v.input-is ∙ v.blank.ensures)
      | else-next v ↦ (ap (take (at + d.len)) v.input-is ∙ stays p at d v.if-next.false, ap (drop (at + d.len)) v.input-is)
    ] in
    record {
      rest = erased_next p at d _ q h (other_byte (get_or p at 0) c.if-input-at-eq0.false) e two.0 two.1 c.loop-at.invariant.rest;
      len = omega arith;
      within = omega arith;
    }

pub returns : goal.returns
returns c = erased_over c.loop-at.input c.loop-at.at _ (omega arith) c.loop-at.invariant.rest
