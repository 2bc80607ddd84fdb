-- What is read of a database, and what is done with rows one after the other.
use Rattle.std.specs.Prelude.{◌≡◌, ◌⊎◌, ℕ, List, [], ◌∷◌, ◌++◌, Bool, map, find, flat_map, reverse, Option, Some, None, option_map, Result, Ok, Err, string_bytes}
use Rattle.std.specs.Borrow.{Bor}
use Rattle.std.specs.BTreeMap.{BTreeMap, get_by_text}
use Rattle.std.specs.Global.{Global}
use Rattle.std.specs.Str.{bytes_eq}
use Rattle.std.specs.declared.string.String.{String}
use Rattle.sqlite_value.specs.Order.{Row}
use Rattle.sqlite.specs.Store.{Ghosts}
use Rattle.sqlite.specs.Held.{Held, state}
use Rattle.sqlite.specs.State.{IsNotRun, IsUnchanged, Shown}
use Rattle.sqlite.specs.declared.error.Error.{Error}
use Rattle.exif_catalog_file.specs.Errors.{database_error}
use Rattle.exif_catalog_file.specs.Handing.{FailsToShow, HasShown, Steps}
use Rattle.exif_catalog.specs.Moves.{moved_paths, moves_of}
use Rattle.exif_catalog_file.specs.Statements.{ByTables, PreparesAs, RunsWith, and_then}
use Rattle.exif_catalog.specs.Statements.{delete_row, entry_at, hashed_at, path_parameter, read_hashes, read_rows}
use Rattle.exif_catalog_file.specs.declared.errors.CatalogError.{CatalogError}
use Rattle.exif_catalog.specs.declared.hashes.Move.{Move}
use Rattle.exif_catalog.specs.declared.known.Known.{Known}
use Rattle.exif_catalog.specs.declared.known.Side.{Side}
use Rattle.exif_catalog.specs.declared.known.Side.TheVariants as side
use Rattle.exif_catalog.specs.declared.moving.Hashed.{Hashed}

-- ---- what is read of rows

-- what is read of each row, or why nothing is of the first of which nothing is
abbrev pub each_of : {A : Type 0} → (Row → Result A CatalogError) → List Row
    → Result (List A) CatalogError
each_of read [] = Ok []
each_of read (row ∷ rows) =
    and_then (λ item. and_then (λ items. Ok (item ∷ items)) (each_of read rows)) (read row)

-- ---- the rows of a catalogue

-- what is known of a path, by the last of the rows that has it
abbrev pub known_by : List (List ℕ × Known) → List ℕ → Option Known
known_by entries path =
    option_map (λ entry. entry.1) (find (λ entry. bytes_eq entry.0 path) (reverse entries))

-- the pictures that are gone, and those that are new, by their paths and hashes
abbrev pub gone_of : Side → List ℕ → List ℕ → List (List ℕ × List ℕ)
gone_of side.Gone path hash = (path, hash) ∷ []
gone_of side.New path hash = []

abbrev pub new_of : Side → List ℕ → List ℕ → List (List ℕ × List ℕ)
new_of side.Gone path hash = []
new_of side.New path hash = (path, hash) ∷ []

-- those of a row
abbrev pub gone_in : Option (Side × List ℕ × List ℕ) → List (List ℕ × List ℕ)
gone_in None = []
gone_in (Some it) = gone_of it.0 it.1 it.2

abbrev pub new_in : Option (Side × List ℕ × List ℕ) → List (List ℕ × List ℕ)
new_in None = []
new_in (Some it) = new_of it.0 it.1 it.2

-- the path and the hash of a picture
abbrev pub hashed_parts : Hashed → List ℕ × List ℕ
hashed_parts picture = (string_bytes picture.path, string_bytes picture.hash)

module _ {S : Type 0} (g : Ghosts S) where
  -- these are read of the rows that a query shows
  abbrev pub ReadsEach : {A : Type 0} → List ℕ → (Row → Result A CatalogError) → Held S → Held S
      → List A → Type 0
  ReadsEach sql read old new items = (rows : List Row)
      × Shown sql [] (state g old) (state g new) rows × (each_of read rows ≡ Ok items)

  -- a query fails, or one of its rows is the first of which nothing is read
  abbrev pub FailsToRead : {A : Type 0} → List ℕ → (Row → Result A CatalogError) → Held S → Held S
      → CatalogError → Type 0
  FailsToRead {A} sql read old new e =
      ((why : Error) × FailsToShow g sql old new why × (e ≡ database_error why))
      ⊎ ((rows : List Row) × (row : Row) × (items : List A)
      × HasShown g sql old new (rows ++ row ∷ []) × (each_of read rows ≡ Ok items)
      × (read row ≡ Err e))

  -- what is known of all rows
  abbrev pub ReadsRows : Bool → Held S → Held S → BTreeMap (String Global) Known → Type 0
  ReadsRows needs_hash old new known = (entries : List (List ℕ × Known))
      × ReadsEach read_rows (λ cells. entry_at cells needs_hash) old new entries
      × ((path : List ℕ) → get_by_text known path ≡ known_by entries path)

  -- the pictures with hashes that are gone or new, in the order of the rows
  abbrev pub ReadsSides : (List ℕ → Option Known) → List (Bor (List ℕ)) → Held S → Held S
      → List Hashed → List Hashed → Type 0
  ReadsSides known roots old new gone fresh =
      (found : List (Option (Side × List ℕ × List ℕ)))
      × ReadsEach read_hashes (hashed_at known roots) old new found
      × (map hashed_parts gone ≡ flat_map gone_in found)
      × (map hashed_parts fresh ≡ flat_map new_in found)

  -- the moves among them
  abbrev pub ReadsMoves : (List ℕ → Option Known) → List (Bor (List ℕ)) → Held S → Held S
      → List Move → Type 0
  ReadsMoves known roots old new moves = (gone : List Hashed) × (fresh : List Hashed)
      × ReadsSides known roots old new gone fresh
      × (map moved_paths moves ≡ moves_of gone fresh)

  -- the row of a file's old path is taken away
  abbrev pub Deletes : Held S → Move → Held S → Result (Unit {0}) CatalogError → Type 0
  Deletes old move new result =
      RunsWith g delete_row (path_parameter (string_bytes move.old)) old new result

  -- those of all, one after the other, once the text was understood
  abbrev pub DeletesEach : Held S → List Move → Held S → Type 0
  DeletesEach old moves new = (mid : Held S) × IsUnchanged (state g old) (state g mid)
      × Steps (λ was move is. Deletes was move is (Ok tt)) mid moves new

  -- the text is refused, or one of the rows is not taken away, and those before it were
  abbrev pub FailsToDelete : Held S → List Move → Held S → CatalogError → Type 0
  FailsToDelete old moves new e =
      ((why : Error) × IsNotRun (state g old) (state g new) delete_row [] why
      × (e ≡ database_error why))
      ⊎ ((mid : Held S) × (done : List Move) × (move : Move) × (left : List Move)
      × (moves ≡ done ++ move ∷ left) × DeletesEach old done mid × Deletes mid move new (Err e))

  -- ---- what a run begins with

  -- the tables are there, or made, and what is known of all rows is read
  abbrev pub OpensCatalog : Bool → Held S → Held S → BTreeMap (String Global) Known → Type 0
  OpensCatalog needs_hash old new known = (made : Held S) × (read : Held S)
      × ByTables g (PreparesAs g) old made (Ok tt) × ReadsRows needs_hash made read known
      × IsUnchanged (state g read) (state g new)
