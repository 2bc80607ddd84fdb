use Rattle.std.proofs.Common.{inl, inr, rules}
use Rattle.exif_catalog_file.proofs.database.check_version.Goals as goal

pub returns-in_err-check_number-clause-asks : goal.returns-in_err-check_number-clause-asks
returns-in_err-check_number-clause-asks g c clean =
    inl (search rules, (c.in_err-check_number.field-0.0, search rules))

pub returns-clause-asks : goal.returns-clause-asks
returns-clause-asks g c clean =
    inr (
      c.check_number.new.database,
      c.in_ok-check_number.ensures.asks (c.check_table.ensures.clean clean),
      c.check_table.ensures.asks clean,
    )
