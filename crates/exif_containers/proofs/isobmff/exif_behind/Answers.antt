use Rattle.std.proofs.lemmas.Result.{err_from_is_err_and}
use Rattle.exif_types.specs.Refusals.{Gives}
use Rattle.exif_isobmff.specs.ItemView.{item_view}
use Rattle.exif_isobmff.proofs.ExifNames.{exif_item_only}
use Rattle.exif_containers.proofs.IsobmffNames.{fails_named}
use Rattle.exif_containers.proofs.IsobmffFile.{item_fails, beside_gives, in_file_gives}
use Rattle.exif_containers.proofs.isobmff.exif_behind.Goals as goal

pub returns-in_err-location-clause-gives : goal.returns-in_err-location-clause-gives
returns-in_err-location-clause-gives g c =
    let p = err_from_is_err_and c.from_residual.result c.from_residual.ensures.1 in
    rw (p.1, p.2)
    (item_fails c.in_err-location.field-0.0 (g.R.Source.left c.args.source.now) c.args.front.items c.deref.result.now c.in-Some.meta.body.now c.deref.ensures.value c.in-Some.ensures.body c.in_err-location.ensures.gives)

pub returns-in_err-location-clause-named : goal.returns-in_err-location-clause-named
returns-in_err-location-clause-named g c =
    let p = err_from_is_err_and c.from_residual.result c.from_residual.ensures.1 in
    rw (p.1, p.2) (fails_named c.in_err-location.field-0.0 _ (exif_item_only _) c.in_err-location.ensures.gives)

pub returns-then-location-ne0-clause-gives : goal.returns-then-location-ne0-clause-gives
returns-then-location-ne0-clause-gives g c =
    beside_gives (λ t. Gives (λ v. v.items) c.exif_beside.result t) (g.R.Source.left c.args.source.now) c.args.front.items c.deref.result.now c.in-Some.meta.body.now (item_view c.in_ok-location.field-0) c.deref.ensures.value
    c.in-Some.ensures.body c.in_ok-location.ensures.gives c.if-location-ne0.true c.exif_beside.ensures.gives

pub returns-clause-gives : goal.returns-clause-gives
returns-clause-gives g c =
    in_file_gives (λ t. Gives (λ v. v.items) c.exif_in_file.result t) (g.R.Source.left c.args.source.now) c.args.front.items c.deref.result.now c.in-Some.meta.body.now (item_view c.in_ok-location.field-0) c.deref.ensures.value
    c.in-Some.ensures.body c.in_ok-location.ensures.gives c.if-location-ne0.false c.exif_in_file.ensures.gives
