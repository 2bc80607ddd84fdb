use Rattle.std.proofs.Common.{sym}
use Rattle.exif_geotag.proofs.spot.Spot.stale_tags.Goals as goal

pub returns-in-Some : goal.returns-in-Some
returns-in-Some c = rw (c.in-Some.is, sym c.is_some.ensures) c.stale_tags.ensures
