use Rattle.std.proofs.Common.{◌≡◌, List, Option}
use Rattle.exif_catalog.specs.Totals.{counted_all, no_totals}
use Rattle.exif_catalog.specs.declared.totals.Outcome.{Outcome}
use Rattle.exif_catalog.proofs.updating.take_each.Given as goal

-- what became of the files so far was counted
abbrev pub invariant-files : goal.invariant-files
invariant-files g l =
    ((outcomes : List (Option Outcome)) × (l.totals ≡ counted_all no_totals outcomes))
    × (g.P.Pictures.through l.pictures ≡ g.P.Pictures.through l.initial.pictures)
