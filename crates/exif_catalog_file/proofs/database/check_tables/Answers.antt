use Rattle.exif_catalog_file.specs.Statements.{ChecksAs}
use Rattle.exif_catalog_file.specs.declared.tables.Tables.TheVariants as tables
use Rattle.exif_catalog_file.proofs.Finding.{followed, refused}
use Rattle.exif_catalog_file.proofs.database.check_tables.Goals as goal

pub returns-in-Catalog : goal.returns-in-Catalog
returns-in-Catalog g c = record {
  checks = λ clean. followed g.S.Store (ChecksAs g.S.Store) c.in_ok-find_tables.field-0
      tables.Catalog c.args.database.now c.find_tables.new.database c.check_version.new.database
      c.check_version.result
      (c.in_ok-find_tables.ensures.finds (c.check_version.ensures.clean clean))
      c.in-Catalog.is (c.check_version.ensures.asks clean);
}

pub returns-in-None : goal.returns-in-None
returns-in-None g c = record {
  checks = λ clean. refused g.S.Store c.in_ok-find_tables.field-0 c.args.database.now
      c.find_tables.new.database (c.in_ok-find_tables.ensures.finds clean) c.in-None.is;
}
