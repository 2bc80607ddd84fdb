use Rattle.std.proofs.Common.{refl, lit≤, sym}
use Rattle.exif_page.proofs.Boundaries.{boundary}
use Rattle.exif_page.specs.Dates.{form}
use Rattle.exif_page.proofs.dates.time_of.Goals as goal

pub range-requires-clause-end_boundary : goal.range-requires-clause-end_boundary
range-requires-clause-end_boundary c =
    boundary form c.args.date.now 19 refl (sym c.if-is_date.ensures) (lit≤ tt)
