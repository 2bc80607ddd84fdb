use Rattle.std.proofs.Common.{sym, ◌∙◌}
use Rattle.std.proofs.lemmas.Result.{err_from_is_err_and}
use Rattle.exif_isobmff.specs.ItemLocations.{extent_at}
use Rattle.exif_types.proofs.Refusing.{refusal_fails}
use Rattle.exif_isobmff.proofs.LocationsTimes.{times_failed, times_went_on, times_done}
use Rattle.exif_isobmff.proofs.locations.extents.Goals as goal

pub returns-in_err-extent-clause-gives : goal.returns-in_err-extent-clause-gives
returns-in_err-extent-clause-gives c =
    let p = err_from_is_err_and c.from_residual.result c.from_residual.ensures.1 in
    rw (p.1, p.2, ← c.loop.invariant) (times_failed c.in_err-extent.field-0.0 (extent_at c.args.sizes) c.loop.found.items c.args.count c.loop.counter c.loop.body c.loop-test.true (refusal_fails c.in_err-extent.field-0.0 (extent_at c.args.sizes c.loop.body) c.in_err-extent.ensures))

pub loop-preserved : goal.loop-preserved
loop-preserved c =
    rw c.in_ok-push.ensures.items (times_went_on (extent_at c.args.sizes) c.loop.found.items c.args.count c.loop.counter c.loop.body c.in_ok-extent.extent c.next_extent.new.body _ c.loop-test.true c.in_ok-extent.ensures c.loop.invariant)

pub returns-clause-gives : goal.returns-clause-gives
returns-clause-gives c = sym c.loop.invariant ∙ times_done (extent_at c.args.sizes) c.loop.found.items c.args.count c.loop.counter c.loop.body c.loop-test.false
