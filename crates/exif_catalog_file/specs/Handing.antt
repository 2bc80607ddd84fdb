-- Rows that a query shows, one after the other.
use Rattle.std.specs.Prelude.{◌≡◌, ◌⊎◌, ℕ, ◌-◌, ◌^◌, List, [], ◌∷◌, ◌++◌, length}
use Rattle.sqlite_value.specs.Order.{Row}
use Rattle.sqlite.specs.Store.{Ghosts}
use Rattle.sqlite.specs.Given.{HasGiven, Returns}
use Rattle.sqlite.specs.Held.{Held, state}
use Rattle.sqlite.specs.Listing.{understood}
use Rattle.sqlite.specs.State.{FailsToQuery, IsUnchanged, Shown}
use Rattle.sqlite.specs.Stream.{HasEnded, returned}
use Rattle.sqlite.specs.declared.error.Error.{Error}
use Rattle.sqlite.specs.declared.error.Error.TheVariants.{SqliteFailure}
use Rattle.sqlite.specs.declared.error.ErrorCode.TheVariants.{OperationInterrupted}
use Rattle.exif_catalog_file.specs.Errors.{database_error}
use Rattle.exif_catalog_file.specs.declared.errors.CatalogError.{CatalogError}
use Rattle.exif_catalog_file.specs.declared.errors.CatalogError.TheVariants as error

-- a step for each item, in their order
abbrev pub Steps : {X A : Type 0} → (X → A → X → Type 0) → X → List A → X → Type 0
Steps Step old [] new = new ≡ old
Steps {X} Step old (item ∷ items) new = (mid : X) × Step old item mid × Steps Step mid items new

module _ {S : Type 0} (g : Ghosts S) where
  -- A query has given these rows: it runs over what the database shows, or it was a write, which
  -- may have more rows to show.
  abbrev pub HasShown : List ℕ → Held S → Held S → List Row → Type 0
  HasShown sql old new rows =
      (HasGiven g sql [] new rows × IsUnchanged (state g old) (state g new))
      ⊎ (Returns (understood old.schema sql)
      × Shown sql [] (state g old) (state g new) (rows ++ returned new.reading)
      × HasEnded new.reading)

  -- a query fails; of a write that shows rows nothing more is said
  abbrev pub FailsToShow : List ℕ → Held S → Held S → Error → Type 0
  FailsToShow sql old new why = FailsToQuery sql [] (state g old) (state g new) why
      ⊎ Returns (understood old.schema sql)

  -- each row that a query shows is handed on, in their order, and they are counted
  abbrev pub HandsEach : {X : Type 0} → (X → Row → X → Type 0) → List ℕ → Held S → Held S → X → X
      → ℕ → Type 0
  HandsEach Hands sql old new was is count = (rows : List Row)
      × Shown sql [] (state g old) (state g new) rows × (count ≡ length rows)
      × Steps Hands was rows is

  -- a query fails, or shows more rows than a count can tell
  abbrev pub FailsToHand : List ℕ → Held S → Held S → CatalogError → Type 0
  FailsToHand sql old new e =
      ((why : Error) × FailsToShow sql old new why × (e ≡ database_error why))
      ⊎ ((rows : List Row) × HasShown sql old new rows × (length rows ≡ 2 ^ 64 - 1)
      × (e ≡ error.Database (SqliteFailure OperationInterrupted)))
