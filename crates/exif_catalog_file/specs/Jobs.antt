-- What is done with a database in a transaction.
use Rattle.std.specs.Prelude.{◌≡◌, ◌⊎◌, IsTrue, Result, IsErrAnd}
use Rattle.exif_catalog_file.specs.Copies.{is_cause, is_copy_error}
use Rattle.exif_catalog_file.specs.Errors.{IsFailure}
use Rattle.exif_catalog_file.specs.Heads.{is_new_error}
use Rattle.exif_catalog_file.specs.declared.errors.CatalogError.{CatalogError}
use Rattle.exif_catalog_file.specs.declared.errors.RunError.{RunError}
use Rattle.exif_catalog_file.specs.declared.errors.RunError.TheVariants.{Catalog}

-- why a file is not opened for a run that changes it: what is at its path, or a failure of the
-- database
abbrev pub IsNotOpened : CatalogError → Type 0
IsNotOpened e = IsTrue (is_cause e) ⊎ IsFailure e

-- the same of a file that may be no database: what is there is refused before it is opened
abbrev pub IsNotChanged : CatalogError → Type 0
IsNotChanged e = IsTrue (is_new_error e) ⊎ IsNotOpened e

-- why none is for one that reads it: there is no copy of it, or the database fails
abbrev pub IsNotRead : CatalogError → Type 0
IsNotRead e = IsTrue (is_copy_error e) ⊎ IsFailure e

-- a job is done once, and its answer is the answer; or it is not begun, for one of these causes
abbrev pub IsDone : {J A E : Type 0} → (J → Result A (RunError E) → J → Type 0)
    → (CatalogError → Type 0) → J → Result A (RunError E) → J → Type 0
IsDone Does IsCause old result new = Does old result new
    ⊎ ((new ≡ old)
    × IsErrAnd result (λ e. (why : CatalogError) × (e ≡ Catalog why) × IsCause why))
