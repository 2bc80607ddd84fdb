use Rattle.std.proofs.Common.{◌≡◌, Ok, rules}
use Rattle.std.proofs.lemmas.Result.{err_from_is_err_and}
use Rattle.exif_types.specs.Refusals.{Fails, Gives}
use Rattle.exif_isobmff.specs.ItemView.{item_view}
use Rattle.exif_isobmff.proofs.ExifNames.{after_header_only, exif_item_only}
use Rattle.exif_containers.proofs.IsobmffAt.{keeps_more}
use Rattle.exif_containers.proofs.IsobmffBack.{back_beside, back_fails, back_gives, back_refused, back_resumed}
use Rattle.exif_containers.proofs.IsobmffNames.{fails_named}
use Rattle.exif_containers.proofs.isobmff.exif_skipping.Goals as goal

pub returns-in_default-clause-gives : goal.returns-in_default-clause-gives
returns-in_default-clause-gives g c =
    back_resumed (λ t. Gives (λ v. v.items) c.exif_resumed.result t) c.args.origin c.args.front.items (g.R.Source.stream c.args.source.now) (g.R.Source.left c.args.source.now) (g.R.Source.left c.find_meta.new.source)
    c.in_ok-meta.ensures.kept c.exif_resumed.ensures.gives

pub returns-in_err-location-clause-named : goal.returns-in_err-location-clause-named
returns-in_err-location-clause-named g c =
    let p = err_from_is_err_and c.from_residual-in_err-location.result c.from_residual-in_err-location.ensures.1 in
    rw (p.1, p.2) (fails_named c.in_err-location.field-0.0 _ (exif_item_only _) c.in_err-location.ensures.gives)

pub returns-in_err-location-clause-gives : goal.returns-in_err-location-clause-gives
returns-in_err-location-clause-gives g c =
    let p = err_from_is_err_and c.from_residual-in_err-location.result c.from_residual-in_err-location.ensures.1 in
    rw (p.1, p.2)
    (back_fails c.in_err-location.field-0.0 c.in-Some.meta.items c.deref.result.now c.args.origin c.args.front.items (g.R.Source.stream c.args.source.now) (g.R.Source.left c.args.source.now)
    (rw c.in-Some.is at c.in_ok-meta.ensures.found) c.deref.ensures.value c.in_err-location.ensures.gives)

pub returns-then-location-ne0-clause-gives : goal.returns-then-location-ne0-clause-gives
returns-then-location-ne0-clause-gives g c =
    back_beside (λ t. Gives (λ v. v.items) c.exif_beside.result t) c.in-Some.meta.items c.deref.result.now c.args.origin c.args.front.items (g.R.Source.stream c.args.source.now) (g.R.Source.left c.args.source.now)
    (item_view c.in_ok-location.field-0) (rw c.in-Some.is at c.in_ok-meta.ensures.found) c.deref.ensures.value c.in_ok-location.ensures.gives c.if-location-ne0.true c.exif_beside.ensures.gives

pub returns-in_err-block-clause-gives : goal.returns-in_err-block-clause-gives
returns-in_err-block-clause-gives g c =
    let p = err_from_is_err_and c.from_residual-in_err-block.result c.from_residual-in_err-block.ensures.1 in
    rw (p.1, p.2)
    (back_refused c.in_err-block.field-0.0 c.in-Some.meta.items c.deref.result.now c.args.origin c.args.front.items (g.R.Source.stream c.args.source.now) (g.R.Source.stream c.find_meta.new.source) (g.R.Source.left c.args.source.now)
    (item_view c.in_ok-location.field-0) (rw c.in-Some.is at c.in_ok-meta.ensures.found) c.deref.ensures.value c.in_ok-location.ensures.gives c.if-location-ne0.false c.in_ok-meta.ensures.stream c.in_err-block.ensures.gives)

pub returns-in_err-payload-clause-named : goal.returns-in_err-payload-clause-named
returns-in_err-payload-clause-named g c =
    let p = err_from_is_err_and c.from_residual-in_err-payload.result c.from_residual-in_err-payload.ensures.1 in
    rw (p.1, p.2) (fails_named c.in_err-payload.field-0.0 _ (after_header_only _) c.in_err-payload.ensures.gives)

pub returns-in_err-payload-clause-gives : goal.returns-in_err-payload-clause-gives
returns-in_err-payload-clause-gives g c =
    let p = err_from_is_err_and c.from_residual-in_err-payload.result c.from_residual-in_err-payload.ensures.1 in
    rw (p.1, p.2)
    (back_gives (Fails c.in_err-payload.field-0.0) c.in-Some.meta.items c.deref.result.now c.args.origin c.args.front.items (g.R.Source.stream c.args.source.now) (g.R.Source.stream c.find_meta.new.source) (g.R.Source.left c.args.source.now)
    (item_view c.in_ok-location.field-0) c.in-Some-2.block.items c.deref-2.result.now (rw c.in-Some.is at c.in_ok-meta.ensures.found) c.deref.ensures.value c.in_ok-location.ensures.gives c.if-location-ne0.false c.in_ok-meta.ensures.stream
    c.deref-2.ensures.value (rw c.in-Some-2.is at c.in_ok-block.ensures.gives) c.in_err-payload.ensures.gives)

pub returns-in_default-2-clause-gives : goal.returns-in_default-2-clause-gives
returns-in_default-2-clause-gives g c =
    back_resumed (λ t. Gives (λ v. v.items) c.exif_resumed-in_default-2.result t) c.args.origin c.args.front.items (g.R.Source.stream c.args.source.now) (g.R.Source.left c.args.source.now) (g.R.Source.left c.bytes_at.new.source)
    (keeps_more _ _ _ c.in_ok-meta.ensures.kept c.in_ok-block.ensures.kept) c.exif_resumed-in_default-2.ensures.gives

pub returns-clause-gives : goal.returns-clause-gives
returns-clause-gives g c =
    back_gives (λ t. t ≡ Ok c.in_ok-payload.payload.items) c.in-Some.meta.items c.deref.result.now c.args.origin c.args.front.items (g.R.Source.stream c.args.source.now) (g.R.Source.stream c.find_meta.new.source) (g.R.Source.left c.args.source.now)
    (item_view c.in_ok-location.field-0) c.in-Some-2.block.items c.deref-2.result.now (rw c.in-Some.is at c.in_ok-meta.ensures.found) c.deref.ensures.value c.in_ok-location.ensures.gives c.if-location-ne0.false c.in_ok-meta.ensures.stream
    c.deref-2.ensures.value (rw c.in-Some-2.is at c.in_ok-block.ensures.gives) c.in_ok-payload.ensures.gives
