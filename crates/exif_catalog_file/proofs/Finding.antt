-- What follows by the tables that are there.
use Rattle.std.proofs.Common.{◌≡◌, ◌⊎◌, inl, inr, refl, subst, Result, Ok, Err}
use Rattle.sqlite.specs.Held.{Held}
use Rattle.sqlite.specs.Store.{Ghosts}
use Rattle.exif_catalog_file.specs.Statements.{ByTables, ChecksAs, FindsTables}
use Rattle.exif_catalog_file.specs.declared.errors.CatalogError.{CatalogError}
use Rattle.exif_catalog_file.specs.declared.errors.CatalogError.TheVariants as error
use Rattle.exif_catalog_file.specs.declared.tables.Tables.{Tables}
use Rattle.exif_catalog_file.specs.declared.tables.Tables.TheVariants as tables

-- what follows by tables that were found to be these
pub followed : {S : Type 0} (g : Ghosts S)
    (Follows : Tables → Held S → Held S → Result (Unit {0}) CatalogError → Type 0)
    (found these : Tables) (old mid new : Held S) (result : Result (Unit {0}) CatalogError)
    → FindsTables g old mid (Ok found) → found ≡ these → Follows these mid new result
    → ByTables g Follows old new result
followed g Follows found these old mid new result finds is follows =
    inr (these, mid, subst (λ t. FindsTables g old mid (Ok t)) is finds, follows)

-- tables that are not a catalogue's are refused
pub refused : {S : Type 0} (g : Ghosts S) (found : Tables) (old mid : Held S)
    → FindsTables g old mid (Ok found) → (found ≡ tables.None) ⊎ (found ≡ tables.Other)
    → ByTables g (ChecksAs g) old mid (Err error.OtherTables)
refused g found old mid finds (inl is) =
    followed g (ChecksAs g) found tables.None old mid mid (Err error.OtherTables) finds is (refl, refl)
refused g found old mid finds (inr is) =
    followed g (ChecksAs g) found tables.Other old mid mid (Err error.OtherTables) finds is (refl, refl)
