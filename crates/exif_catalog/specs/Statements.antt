-- The statements of a run over a catalogue, and what is known by their answers.
use Rattle.std.specs.Prelude.{◌≡◌, ◌⊎◌, ◌+◌, ◌++◌, ℕ, ℤ, pos, negsuc, List, [], ◌∷◌, Bool, map, Option, Some, None, Result, Ok, Err, if◌then◌else◌, codes, string_bytes}
use Rattle.std.specs.Borrow.{Bor}
use Rattle.std.specs.Fmt.{decimal}
use Rattle.sqlite_value.specs.Order.{Row}
use Rattle.sqlite_value.specs.declared.value.Value.{Value}
use Rattle.sqlite_value.specs.declared.value.Value.TheVariants as value
use Rattle.sqlite.specs.Store.{Ghosts}
use Rattle.sqlite.specs.Held.{Held}
use Rattle.exif_summary.specs.declared.columns.Column.{Column}
use Rattle.exif_catalog_file.specs.Schema.{ColumnType, real, text, type_of, whole}
use Rattle.exif_catalog_file.specs.Statements.{RunsWith, and_then, number_at, text_at}
use Rattle.exif_catalog.specs.Known.{known_from, side_of, stamp_from}
use Rattle.exif_catalog.specs.declared.known.Known.{Known}
use Rattle.exif_catalog.specs.declared.known.Side.{Side}
use Rattle.exif_catalog.specs.declared.known.Stamp.{Stamp}
use Rattle.exif_catalog.specs.declared.moving.Hashed.{Hashed}
use Rattle.exif_catalog.specs.declared.values.SqlValue.{SqlValue}
use Rattle.exif_catalog.specs.declared.values.SqlValue.TheVariants as sql
use Rattle.exif_catalog_file.specs.declared.errors.CatalogError.{CatalogError}
use Rattle.exif_catalog_file.specs.declared.errors.CatalogError.TheVariants as error

-- ---- the texts

-- what reads what a run has to know of each row
abbrev pub read_rows : List ℕ
read_rows =
    codes "SELECT path, file_size, file_modified, file_modified_ns, file_changed, "
    ++ codes "file_changed_ns, file_device, file_inode, removed, hash IS NULL FROM picture"

-- what reads the hashes that rows have
abbrev pub read_hashes : List ℕ
read_hashes = codes "SELECT path, hash FROM picture WHERE hash IS NOT NULL"

-- what takes a row away
abbrev pub delete_row : List ℕ
delete_row = codes "DELETE FROM picture WHERE path = ?1"

-- what marks a row as removed, or not
abbrev pub mark_row : List ℕ
mark_row = codes "UPDATE picture SET removed = ?2 WHERE path = ?1"

-- the parameter of a column: the number that a text is, where the column has numbers
abbrev pub parameter : ColumnType → ℕ → List ℕ
parameter real n = codes ", CAST(?" ++ decimal n ++ codes " AS REAL)"
parameter whole n = codes ", ?" ++ decimal n
parameter text n = codes ", ?" ++ decimal n

-- those of columns, from a number on
abbrev pub parameters : ℕ → List Column → List ℕ
parameters n [] = []
parameters n (column ∷ columns) = parameter (type_of column) n ++ parameters (n + 1) columns

-- what writes a row: the eleven values of a file, those of the columns, and that it is there
abbrev pub insert_text : List Column → List ℕ
insert_text columns =
    codes "INSERT OR REPLACE INTO picture VALUES (?1, ?2, ?3, ?4, ?5, ?6, ?7, ?8, ?9, ?10, ?11"
    ++ parameters 12 columns ++ codes ", 0)"

-- ---- what is known of a row, by its cells: its path, the seven parts of its stamp, its mark, and
-- whether it lacks a hash

-- a number that is not negative
abbrev pub amount_of : Option ℤ → Option ℕ
amount_of (Some (pos n)) = Some n
amount_of (Some (negsuc n)) = None
amount_of None = None

-- that of a column
abbrev pub amount_at : Row → ℕ → Result (Option ℕ) CatalogError
amount_at cells at = and_then (λ n. Ok (amount_of n)) (number_at cells at)

-- the stamp
abbrev pub stamp_at : Row → Result (Option Stamp) CatalogError
stamp_at cells =
    and_then (λ size. and_then (λ modified. and_then (λ modified_ns. and_then (λ changed.
    and_then (λ changed_ns. and_then (λ device. and_then (λ inode.
    Ok (stamp_from (size ∷ modified ∷ modified_ns ∷ changed ∷ changed_ns ∷ device ∷ inode ∷ [])))
    (amount_at cells 7)) (amount_at cells 6)) (amount_at cells 5)) (amount_at cells 4))
    (amount_at cells 3)) (amount_at cells 2)) (amount_at cells 1)

-- all of it
abbrev pub known_at : Row → Bool → Result Known CatalogError
known_at cells needs_hash =
    and_then (λ stamp. and_then (λ removed. and_then (λ lacks_hash.
    Ok (known_from stamp removed lacks_hash needs_hash))
    (number_at cells 9)) (number_at cells 8)) (stamp_at cells)

-- its path, and all of it
abbrev pub entry_at : Row → Bool → Result (List ℕ × Known) CatalogError
entry_at cells needs_hash =
    and_then (λ path. and_then (λ known. Ok (path, known)) (known_at cells needs_hash))
    (text_at cells 0)

-- ---- the hashes of rows

-- what a row's picture may be of a move, with its path and its hash, if it may be something
abbrev pub hashed_as : Option Side → List ℕ → Row
    → Result (Option (Side × List ℕ × List ℕ)) CatalogError
hashed_as None path cells = Ok None
hashed_as (Some side) path cells =
    and_then (λ hash. Ok (Some (side, path, hash))) (text_at cells 1)

-- the same by what was known of it
abbrev pub hashed_at : (List ℕ → Option Known) → List (Bor (List ℕ)) → Row
    → Result (Option (Side × List ℕ × List ℕ)) CatalogError
hashed_at known roots cells =
    and_then (λ path. hashed_as (side_of (known path) path roots) path cells) (text_at cells 0)

-- its parts
abbrev pub parts_of : Side × Hashed → Side × List ℕ × List ℕ
parts_of it = (it.0, string_bytes it.1.path, string_bytes it.1.hash)

-- ---- the parameters of a row

-- a number with a fraction goes in as its text, and the SQL makes it a number (`insert_text`)
abbrev pub parameter_value : SqlValue → Value
parameter_value sql.Null = value.Null
parameter_value (sql.Integer n) = value.Int n
parameter_value (sql.Real t) = value.Text (string_bytes t)
parameter_value (sql.Text t) = value.Text (string_bytes t)

-- what marks a row: its path, and 1 or 0
abbrev pub mark_parameters : List ℕ → Bool → Row
mark_parameters path is_removed =
    value.Text path ∷ value.Int (if is_removed then pos 1 else pos 0) ∷ []

-- what takes a row away: its path
abbrev pub path_parameter : List ℕ → Row
path_parameter path = value.Text path ∷ []

-- ---- a row that is written

module _ {S : Type 0} (g : Ghosts S) where
  -- A row is written, or there is no memory for its parameters, and nothing is done.
  abbrev pub WritesRow : List ℕ → List SqlValue → Held S → Held S
      → Result (Unit {0}) CatalogError → Type 0
  WritesRow sql values old new result = RunsWith g sql (map parameter_value values) old new result
      ⊎ ((result ≡ Err error.OutOfMemory) × (new ≡ old))
