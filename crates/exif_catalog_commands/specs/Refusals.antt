-- Why a catalogue or a query was refused, or why a run over it ends.
use Rattle.std.specs.Prelude.{ℕ, Option, None, Some, Result, Ok, Err}
use Rattle.std.specs.declared.io.Error as io
use Rattle.exif_catalog_file.specs.declared.errors.CatalogError.{CatalogError}
use Rattle.exif_catalog_file.specs.declared.errors.CatalogError.TheVariants as catalog
use Rattle.exif_catalog_file.specs.declared.errors.RunError.{RunError}
use Rattle.exif_catalog_file.specs.declared.errors.RunError.TheVariants.{Catalog, Caller}
use Rattle.exif_catalog.specs.declared.updating.Updated.{Updated}
use Rattle.exif_session.specs.declared.session.Stop.{Stop}
use Rattle.exif_session.specs.declared.session.Stop.TheVariants as stop

-- What the files of the run say ends it, and so does memory that runs out; else the catalogue is
-- refused.
abbrev pub refusal_of : RunError Stop → Result CatalogError Stop
refusal_of (Caller why) = Err why
refusal_of (Catalog catalog.OutOfMemory) = Err stop.OutOfMemory
refusal_of (Catalog error) = Ok error

-- what a run did, or why the catalogue was refused; or why the run ends
abbrev pub refused_by : Result CatalogError Stop → Result (Result Updated CatalogError) Stop
refused_by (Ok refusal) = Ok (Err refusal)
refused_by (Err why) = Err why

abbrev pub report_of : Result Updated (RunError Stop) → Result (Result Updated CatalogError) Stop
report_of (Ok updated) = Ok (Ok updated)
report_of (Err error) = refused_by (refusal_of error)

-- why a query was refused, if it was; or why the program ends
abbrev pub query_refusal : Result ℕ (RunError io.Error) → Result (Option CatalogError) Stop
query_refusal (Ok rows) = Ok None
query_refusal (Err (Caller cause)) = Err (stop.Output cause)
query_refusal (Err (Catalog catalog.OutOfMemory)) = Err stop.OutOfMemory
query_refusal (Err (Catalog error)) = Ok (Some error)
