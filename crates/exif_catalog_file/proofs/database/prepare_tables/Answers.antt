use Rattle.std.proofs.Common.{Err, refl}
use Rattle.exif_catalog_file.specs.Statements.{PreparesAs}
use Rattle.exif_catalog_file.specs.declared.errors.CatalogError.TheVariants as error
use Rattle.exif_catalog_file.specs.declared.tables.Tables.TheVariants as tables
use Rattle.exif_catalog_file.proofs.Finding.{followed}
use Rattle.exif_catalog_file.proofs.database.prepare_tables.Goals as goal

pub returns-in-None : goal.returns-in-None
returns-in-None g c = record {
  prepares = λ clean. followed g.S.Store (PreparesAs g.S.Store) c.in_ok-find_tables.field-0
      tables.None c.args.database.now c.find_tables.new.database c.create_tables.new.database
      c.create_tables.result
      (c.in_ok-find_tables.ensures.finds (c.create_tables.ensures.clean clean))
      c.in-None.is (c.create_tables.ensures.makes clean);
}

pub returns-in-Catalog : goal.returns-in-Catalog
returns-in-Catalog g c = record {
  prepares = λ clean. followed g.S.Store (PreparesAs g.S.Store) c.in_ok-find_tables.field-0
      tables.Catalog c.args.database.now c.find_tables.new.database c.check_version.new.database
      c.check_version.result
      (c.in_ok-find_tables.ensures.finds (c.check_version.ensures.clean clean))
      c.in-Catalog.is (c.check_version.ensures.asks clean);
}

pub returns-in-Other : goal.returns-in-Other
returns-in-Other g c = record {
  prepares = λ clean. followed g.S.Store (PreparesAs g.S.Store) c.in_ok-find_tables.field-0
      tables.Other c.args.database.now c.find_tables.new.database c.find_tables.new.database
      (Err error.OtherTables) (c.in_ok-find_tables.ensures.finds clean) c.in-Other.is (refl, refl);
}
