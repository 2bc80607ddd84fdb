use Rattle.std.proofs.Common.{sym, ◌∙◌}
use Rattle.std.specs.Option.{option_map}
use Rattle.std.proofs.lemmas.Result.{err_from_is_err_and}
use Rattle.exif_isobmff.specs.ItemLocations.{location_view, location_at}
use Rattle.exif_isobmff.proofs.LocationsTimes.{last_failed, last_went_on, last_done}
use Rattle.exif_isobmff.proofs.locations.last_location.Goals as goal

pub returns-in_err-location-clause-gives : goal.returns-in_err-location-clause-gives
returns-in_err-location-clause-gives c =
    let p = err_from_is_err_and c.from_residual.result c.from_residual.ensures.1 in
    rw (p.1, p.2, ← c.loop.invariant) (last_failed c.in_err-location.field-0.0 (location_at c.args.wanted c.args.version c.args.sizes) (option_map location_view c.loop.last) c.args.count c.loop.counter c.loop.body c.loop-test.true c.in_err-location.ensures.gives)

pub loop-preserved : goal.loop-preserved
loop-preserved c =
    rw c.or-last.ensures (last_went_on location_view (location_at c.args.wanted c.args.version c.args.sizes) c.loop.last c.in_ok-location.location c.args.count c.loop.counter c.loop.body c.next_location.new.body _ c.loop-test.true c.in_ok-location.ensures.gives c.loop.invariant)

pub returns-clause-gives : goal.returns-clause-gives
returns-clause-gives c = sym c.loop.invariant ∙ last_done (location_at c.args.wanted c.args.version c.args.sizes) (option_map location_view c.loop.last) c.args.count c.loop.counter c.loop.body c.loop-test.false
