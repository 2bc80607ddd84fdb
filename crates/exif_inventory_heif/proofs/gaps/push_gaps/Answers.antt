use Rattle.std.proofs.Common.{sym, ◌∙◌, rules}
use Rattle.exif_inventory_heif.proofs.GapSteps.{span_made, stretch_made}
use Rattle.exif_inventory_heif.proofs.gaps.push_gaps.Goals as goal

pub loop-at-preserved : goal.loop-at-preserved
loop-at-preserved c =
    let l = c.loop-at in
    let s = c.stretch_at-stretch in
    stretch_made c.args.file.now c.args.extents.now c.args.span.end l.at l.gaps.items _ _ s.result c.loop-at-test.true s.ensures.value (search rules) l.invariant

pub returns : goal.returns
returns c =
    let l = c.loop-at in
    span_made c.args.file.now c.args.extents.now c.args.span l.at l.gaps.items c.args.gaps.now.items (sym c.may_hold.ensures ∙ c.if-not-may_hold.false) c.loop-at-test.false l.invariant
