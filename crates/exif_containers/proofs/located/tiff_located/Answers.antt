use Rattle.exif_containers.specs.Located.{located_view}
use Rattle.exif_containers.proofs.LocatedSteps.{tiff_found}
use Rattle.exif_containers.proofs.located.tiff_located.Goals as goal

pub returns-clause-gives : goal.returns-clause-gives
returns-clause-gives g c =
    tiff_found (g.R.Source.left c.args.source.now) c.in_ok-data.data.items (located_view c.in_ok-in_one.field-0) c.in_ok-data.ensures.taken c.in_ok-in_one.ensures
