use Rattle.std.proofs.Common.{◌≡◌}
use Rattle.exif_catalog.specs.Runs.{marks_in}
use Rattle.exif_catalog.proofs.catalog.Catalog.set_marks.Given as goal

-- what is counted so far, and of the rows that are left, is what is counted of all
abbrev pub invariant-loop-path : goal.invariant-loop-path
invariant-loop-path g l =
    marks_in l.roots l.totals l.path-iterator ≡ marks_in l.fn.roots l.fn.totals l.self.rows.entries
