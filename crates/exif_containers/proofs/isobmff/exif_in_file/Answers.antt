use Rattle.std.proofs.Common.{◌≡◌, ◌++◌, None, Ok}
use Rattle.std.proofs.lemmas.Result.{err_from_is_err_and}
use Rattle.exif_types.specs.Refusals.{Fails}
use Rattle.exif_isobmff.specs.ItemLocations.{item_bytes, location_view}
use Rattle.exif_isobmff.proofs.ExifNames.{after_header_only}
use Rattle.exif_containers.proofs.IsobmffNames.{fails_named}
use Rattle.exif_containers.proofs.IsobmffFile.{block_fails, block_read}
use Rattle.exif_containers.proofs.isobmff.exif_in_file.Goals as goal

pub returns-in_err-block-clause-gives : goal.returns-in_err-block-clause-gives
returns-in_err-block-clause-gives g c =
    let p = err_from_is_err_and c.from_residual.result c.from_residual.ensures.1 in
    rw (p.1, p.2)
    (block_fails c.in_err-block.field-0.0 (g.R.Source.left c.args.source.now) (λ rest. item_bytes (c.args.front.items ++ rest) None (location_view c.args.location.now)) c.in_err-block.ensures.gives)

pub returns-in_err-payload-clause-gives : goal.returns-in_err-payload-clause-gives
returns-in_err-payload-clause-gives g c =
    let p = err_from_is_err_and c.from_residual-in_err-payload.result c.from_residual-in_err-payload.ensures.1 in
    rw (p.1, p.2)
    (block_read (Fails c.in_err-payload.field-0.0) (g.R.Source.left c.args.source.now) (λ rest. item_bytes (c.args.front.items ++ rest) None (location_view c.args.location.now)) c.in_ok-block.block.items c.deref.result.now
    c.deref.ensures.value c.in_ok-block.ensures.gives c.in_err-payload.ensures.gives)

pub returns-in_err-payload-clause-named : goal.returns-in_err-payload-clause-named
returns-in_err-payload-clause-named g c =
    let p = err_from_is_err_and c.from_residual-in_err-payload.result c.from_residual-in_err-payload.ensures.1 in
    rw (p.1, p.2) (fails_named c.in_err-payload.field-0.0 _ (after_header_only _) c.in_err-payload.ensures.gives)

pub returns-clause-gives : goal.returns-clause-gives
returns-clause-gives g c =
    block_read (λ t. t ≡ Ok c.in_ok-payload.payload.items) (g.R.Source.left c.args.source.now) (λ rest. item_bytes (c.args.front.items ++ rest) None (location_view c.args.location.now)) c.in_ok-block.block.items c.deref.result.now
    c.deref.ensures.value c.in_ok-block.ensures.gives c.in_ok-payload.ensures.gives
