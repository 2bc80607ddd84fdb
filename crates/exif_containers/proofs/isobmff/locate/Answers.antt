use Rattle.std.proofs.lemmas.Result.{err_from_is_err_and}
use Rattle.exif_isobmff.proofs.ItemRanges.{located_exif_only}
use Rattle.exif_containers.proofs.IsobmffNames.{fails_named}
use Rattle.exif_containers.proofs.isobmff.locate.Goals as goal

pub returns-in_err-found-clause-named : goal.returns-in_err-found-clause-named
returns-in_err-found-clause-named g c =
    let p = err_from_is_err_and c.from_residual-in_err-found.result c.from_residual-in_err-found.ensures.1 in
    rw (p.1, p.2) (fails_named c.in_err-found.field-0.0 _ (located_exif_only _) c.in_err-found.ensures.gives)
