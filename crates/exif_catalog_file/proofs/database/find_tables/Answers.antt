use Rattle.std.proofs.Common.{◌≡◌, Err, inl, inr, refl, rules}
use Rattle.exif_catalog_file.specs.Errors.{database_error}
use Rattle.exif_catalog_file.proofs.database.find_tables.Goals as goal

pub returns-in_err-rows-clause-finds : goal.returns-in_err-rows-clause-finds
returns-in_err-rows-clause-finds g c clean =
    let is : c.from_residual.result ≡ Err (database_error c.in_err-rows.field-0.0) = search rules in
    rw is (inl (c.in_err-rows.field-0.0, refl, c.in_err-rows.ensures.err clean))

pub returns-in_err-names-clause-finds : goal.returns-in_err-names-clause-finds
returns-in_err-names-clause-finds g c clean =
    let is : c.from_residual-in_err-names.result ≡ Err c.in_err-names.field-0.0 = search rules in
    rw is (inr (
      c.in_ok-rows.rows.items,
      c.in_ok-rows.ensures.ok clean,
      rw c.as_slice.ensures.value at c.in_err-names.ensures.refused,
    ))

pub returns-clause-finds : goal.returns-clause-finds
returns-clause-finds g c clean = (
  c.in_ok-rows.rows.items,
  c.in_ok-names.names.items,
  c.in_ok-rows.ensures.ok clean,
  rw c.as_slice.ensures.value at c.in_ok-names.ensures.texts,
  rw c.as_slice-2.ensures.value at c.tables_of.ensures,
)
