use Rattle.std.proofs.Common.{◌≡◌, ◌≤◌, ◌+◌, ◌<◌, length, take, drop, Ok, Err, ap, sym, ◌∙◌, ◌++◌, arith}
use Rattle.exif_locations.specs.XmpErasing.{chunk, step_at}
use Rattle.exif_locations.proofs.XmpWalkSteps.{blanks, erased_faulty, erased_next, erased_over, from_here, goes_deep, goes_within, stays}
use Rattle.exif_locations.proofs.xmp.erase.erase.Goals as goal
use Rattle.exif_locations.proofs.xmp.erase.erase.Goals.{then-next, else-next}

pub returns-in_default : goal.returns-in_default
returns-in_default c =
    let p = c.loop-at.packet in
    let at = c.loop-at.at in
    let s = c.loop-at.state in
    absurd (erased_faulty p at s c.in_default.field-0 _ (omega arith) (from_here p at s (Err c.in_default.field-0) (sym c.next_step.ensures.value ∙ c.in_default.is)) c.loop-at.invariant.rest c.requires)

pub loop-at-preserved : goal.loop-at-preserved
loop-at-preserved c =
    let p = c.loop-at.packet in
    let at = c.loop-at.at in
    let s = c.loop-at.state in
    let t = c.in-Ok.next in
    let h : at < length p = omega arith in
    let e : step_at s (drop at p) ≡ Ok t = from_here p at s (Ok t) (sym c.next_step.ensures.value ∙ c.in-Ok.is) in
    let w : at + t.len ≤ length p = goes_within p at s t h e in
    let q = c.if-next.packet in
    let two : (take (at + t.len) q ≡ take at p ++ chunk t (drop at p)) × (drop (at + t.len) q ≡ drop (at + t.len) p) =
    elim c.if-next.branch [
      | then-next v ↦ blanks p q at t w v.if-next.true (v.packet-is ∙ v.blank.ensures)
      | else-next v ↦ (ap (take (at + t.len)) v.packet-is ∙ stays p at t v.if-next.false, ap (drop (at + t.len)) v.packet-is)
    ] in
    record {
      rest = erased_next p at s t _ q h e two.0 two.1 c.loop-at.invariant.rest;
      len = omega arith;
      within = omega arith;
      depth = goes_deep p at s t h c.loop-at.invariant.depth e;
    }

pub returns : goal.returns
returns c = erased_over c.loop-at.packet c.loop-at.at c.loop-at.state _ (omega arith) c.loop-at.invariant.rest c.requires
