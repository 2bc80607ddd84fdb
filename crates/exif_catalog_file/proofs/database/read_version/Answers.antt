use Rattle.std.proofs.Common.{inr, rules}
use Rattle.exif_catalog_file.proofs.database.read_version.Goals as goal

pub returns-in_err-row-clause-asks : goal.returns-in_err-row-clause-asks
returns-in_err-row-clause-asks g c clean =
    inr (c.in_err-row.field-0.0, c.in_err-row.ensures.row clean, search rules)
