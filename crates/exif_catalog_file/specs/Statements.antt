-- What the statements of a catalogue do, and what their answers become.
use Rattle.std.specs.Prelude.{◌≡◌, ◌⊎◌, ℕ, ℤ, pos, List, [], ◌∷◌, map, Option, Some, None, Result, Ok, Err, length, nat_lt, if◌then◌else◌, codes, String, string_bytes}
use Rattle.std.specs.Ordering.{int_eq}
use Rattle.std.specs.Global.{Global}
use Rattle.std.specs.Str.{bytes_eq, is_utf8}
use Rattle.sqlite_value.specs.Order.{Row, column}
use Rattle.sqlite_value.specs.declared.value.Value.{Value}
use Rattle.sqlite_value.specs.declared.value.Value.TheVariants as value
use Rattle.sqlite.specs.Store.{Ghosts}
use Rattle.sqlite.specs.declared.error.Error.{Error}
use Rattle.sqlite.specs.declared.error.Error.TheVariants.{InvalidColumnIndex, InvalidColumnType, Utf8Error}
use Rattle.sqlite.specs.Held.{Held, state}
use Rattle.sqlite.specs.State.{Executes, FailsToQuery, QueriesRow, Shown}
use Rattle.sqlite.specs.Values.{type_of}
use Rattle.exif_summary.specs.Columns.{columns}
use Rattle.exif_catalog_file.specs.Errors.{database_error}
use Rattle.exif_catalog_file.specs.Schema.{create_text}
use Rattle.exif_catalog_file.specs.Tables.{tables_of}
use Rattle.exif_catalog_file.specs.declared.tables.Tables.{Tables}
use Rattle.exif_catalog_file.specs.declared.tables.Tables.TheVariants as tables
use Rattle.exif_catalog_file.specs.declared.errors.CatalogError.{CatalogError}
use Rattle.exif_catalog_file.specs.declared.errors.CatalogError.TheVariants as error

-- ---- the texts

-- what makes the table of the version, and writes its one row
abbrev pub create_version : List ℕ
create_version = codes "CREATE TABLE catalog (version INTEGER NOT NULL) STRICT"

abbrev pub write_version : List ℕ
write_version = codes "INSERT INTO catalog VALUES (2)"

-- what reads it
abbrev pub read_version : List ℕ
read_version = codes "SELECT version FROM catalog"

-- what names the tables that are there (the same page)
abbrev pub read_tables : List ℕ
read_tables = codes "SELECT name FROM sqlite_schema WHERE type = 'table'"

-- what reads the text that made the table of pictures (SQLite, "The Schema Table", section 2)
abbrev pub read_create : List ℕ
read_create = codes "SELECT sql FROM sqlite_schema WHERE type = 'table' AND name = 'picture'"

-- ---- the columns of an answer

-- an answer that goes on from a cell
abbrev pub and_then : {A B : Type 0} → (A → Result B CatalogError) → Result A CatalogError
    → Result B CatalogError
and_then next (Ok x) = next x
and_then next (Err e) = Err e

-- a column that there is not, or one of another type
abbrev pub no_column : {A : Type 0} → ℕ → Result A CatalogError
no_column at = Err (error.Database (InvalidColumnIndex at))

abbrev pub other_type : {A : Type 0} → ℕ → Value → Result A CatalogError
other_type at v = Err (error.Database (InvalidColumnType at (type_of v)))

-- the whole number that a value is, if it is not NULL
abbrev pub number_in : ℕ → Value → Result (Option ℤ) CatalogError
number_in at value.Null = Ok None
number_in at (value.Int n) = Ok (Some n)
number_in at (value.Real x) = other_type at (value.Real x)
number_in at (value.Text t) = other_type at (value.Text t)
number_in at (value.Blob b) = other_type at (value.Blob b)

-- that of a column
abbrev pub number_at : Row → ℕ → Result (Option ℤ) CatalogError
number_at row at = if nat_lt at (length row) then number_in at (column row at) else no_column at

-- the text that a value is
abbrev pub text_in : ℕ → Value → Result (List ℕ) CatalogError
text_in at (value.Text t) = if is_utf8 t then Ok t else Err (error.Database (Utf8Error at))
text_in at value.Null = other_type at value.Null
text_in at (value.Int n) = other_type at (value.Int n)
text_in at (value.Real x) = other_type at (value.Real x)
text_in at (value.Blob b) = other_type at (value.Blob b)

-- that of a column
abbrev pub text_at : Row → ℕ → Result (List ℕ) CatalogError
text_at row at = if nat_lt at (length row) then text_in at (column row at) else no_column at

-- those in the first column of rows, or why one is none
abbrev pub texts_at : List Row → Result (List (List ℕ)) CatalogError
texts_at [] = Ok []
texts_at (row ∷ rows) =
    and_then (λ text. and_then (λ texts. Ok (text ∷ texts)) (texts_at rows)) (text_at row 0)

-- a text that is read, or out of memory
abbrev pub IsText : Row → Result (String Global) CatalogError → Type 0
IsText row (Ok text) = text_at row 0 ≡ Ok (string_bytes text)
IsText row (Err e) = (e ≡ error.OutOfMemory) ⊎ (text_at row 0 ≡ Err e)

-- ---- a catalogue of this version

-- version 2 is read, and its one row is no NULL
abbrev pub version_answer : Option ℤ → Result (Unit {0}) CatalogError
version_answer (Some n) = if int_eq n (pos 2) then Ok tt else Err (error.OtherVersion n)
version_answer None = Err error.OtherTables

-- the table of pictures was made by the text of this version
abbrev pub table_answer : List ℕ → Result (Unit {0}) CatalogError
table_answer text = if bytes_eq text (create_text columns) then Ok tt else Err error.OtherTables

-- ---- statements

module _ {S : Type 0} (g : Ghosts S) where
  -- a text that is no query is run, with these parameters
  abbrev pub RunsWith : List ℕ → Row → Held S → Held S → Result (Unit {0}) CatalogError → Type 0
  RunsWith sql params old new (Ok done) =
      (count : ℕ) × Executes sql params (state g old) (state g new) (Ok count)
  RunsWith sql params old new (Err e) = (why : Error)
      × Executes sql params (state g old) (state g new) (Err why) × (e ≡ database_error why)

  -- and with none
  abbrev pub Runs : List ℕ → Held S → Held S → Result (Unit {0}) CatalogError → Type 0
  Runs sql = RunsWith sql []

  -- a transaction is begun, and kept
  abbrev pub Begins : Held S → Held S → Result (Unit {0}) CatalogError → Type 0
  Begins = Runs (codes "BEGIN")

  abbrev pub Commits : Held S → Held S → Result (Unit {0}) CatalogError → Type 0
  Commits = Runs (codes "COMMIT")

  -- The first row of a query's answer decides, or the query fails.
  abbrev pub Asks : {A : Type 0} → List ℕ → (Row → Result A CatalogError → Type 0)
      → Held S → Held S → Result A CatalogError → Type 0
  Asks sql Decides old new result =
      ((row : Row) × QueriesRow sql [] (state g old) (state g new) (Ok row) × Decides row result)
      ⊎ ((why : Error) × QueriesRow sql [] (state g old) (state g new) (Err why)
      × (result ≡ Err (database_error why)))

  -- One step, and behind it another; the first error ends it.
  abbrev pub Then : (Held S → Held S → Result (Unit {0}) CatalogError → Type 0)
      → (Held S → Held S → Result (Unit {0}) CatalogError → Type 0)
      → Held S → Held S → Result (Unit {0}) CatalogError → Type 0
  Then First Second old new result =
      (First old new result × ((e : CatalogError) × (result ≡ Err e)))
      ⊎ ((mid : Held S) × First old mid (Ok tt) × Second mid new result)

  -- the version is read and accepted
  abbrev pub AsksVersion : Held S → Held S → Result (Unit {0}) CatalogError → Type 0
  AsksVersion = Asks read_version
      (λ row result. result ≡ and_then version_answer (number_at row 0))

  -- the text of the table of pictures is read and accepted
  abbrev pub AsksTable : Held S → Held S → Result (Unit {0}) CatalogError → Type 0
  AsksTable = Asks read_create (λ row result. (result ≡ and_then table_answer (text_at row 0))
      ⊎ (result ≡ Err error.OutOfMemory))

  -- a catalogue of this version
  abbrev pub AsksCatalog : Held S → Held S → Result (Unit {0}) CatalogError → Type 0
  AsksCatalog = Then AsksVersion AsksTable

  -- the version is written, and the table of pictures made
  abbrev pub MakesRest : Held S → Held S → Result (Unit {0}) CatalogError → Type 0
  MakesRest = Then (Runs write_version) (Runs (create_text columns))

  -- all tables are made
  abbrev pub MakesTables : Held S → Held S → Result (Unit {0}) CatalogError → Type 0
  MakesTables = Then (Runs create_version) MakesRest

  -- which tables there are, by the names of all
  abbrev pub FindsTables : Held S → Held S → Result Tables CatalogError → Type 0
  FindsTables old new (Ok tables) = (rows : List Row) × (names : List (String Global))
      × Shown read_tables [] (state g old) (state g new) rows
      × (texts_at rows ≡ Ok (map string_bytes names)) × (tables ≡ tables_of names)
  FindsTables old new (Err e) = ((why : Error) × (e ≡ database_error why)
      × FailsToQuery read_tables [] (state g old) (state g new) why)
      ⊎ ((rows : List Row) × Shown read_tables [] (state g old) (state g new) rows
      × ((e ≡ error.OutOfMemory) ⊎ (texts_at rows ≡ Err e)))

  -- What reads a catalogue takes its own tables alone.
  abbrev pub ChecksAs : Tables → Held S → Held S → Result (Unit {0}) CatalogError → Type 0
  ChecksAs tables.None mid new result = (result ≡ Err error.OtherTables) × (new ≡ mid)
  ChecksAs tables.Catalog mid new result = AsksCatalog mid new result
  ChecksAs tables.Other mid new result = (result ≡ Err error.OtherTables) × (new ≡ mid)

  -- A run over one also makes them where there are none.
  abbrev pub PreparesAs : Tables → Held S → Held S → Result (Unit {0}) CatalogError → Type 0
  PreparesAs tables.None mid new result = MakesTables mid new result
  PreparesAs tables.Catalog mid new result = AsksCatalog mid new result
  PreparesAs tables.Other mid new result = (result ≡ Err error.OtherTables) × (new ≡ mid)

  -- what follows by the tables that are there, or they are not found
  abbrev pub ByTables : (Tables → Held S → Held S → Result (Unit {0}) CatalogError → Type 0)
      → Held S → Held S → Result (Unit {0}) CatalogError → Type 0
  ByTables Follows old new result =
      ((e : CatalogError) × FindsTables old new (Err e) × (result ≡ Err e))
      ⊎ ((tables : Tables) × (mid : Held S) × FindsTables old mid (Ok tables)
      × Follows tables mid new result)
