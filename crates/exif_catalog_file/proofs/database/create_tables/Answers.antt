use Rattle.std.proofs.Common.{inr}
use Rattle.exif_catalog_file.proofs.database.create_tables.Goals as goal

pub returns-clause-makes : goal.returns-clause-makes
returns-clause-makes g c clean =
    inr (
      c.execute.new.database,
      c.in_ok-execute.ensures.runs (c.create_rest.ensures.clean clean),
      c.create_rest.ensures.makes clean,
    )
