-- Why a catalogue cannot be used: which failure becomes which error, and what is printed of one.
use Rattle.std.specs.Prelude.{◌≡◌, IsTrue, ℕ, ℤ, pos, List, ◌++◌, Bool, true, false, Option, Some, None, if◌then◌else◌, codes, int_lt}
use Rattle.std.specs.Fmt.{signed_decimal}
use Rattle.std.specs.IoError.{error_kind}
use Rattle.std.specs.declared.io.Error as io
use Rattle.std.specs.declared.io.ErrorKind.{ErrorKind}
use Rattle.std.specs.declared.io.ErrorKind.TheVariants as kind
use Rattle.sqlite.specs.declared.error.Error.{Error}
use Rattle.sqlite.specs.declared.error.Error.TheVariants.{SqliteFailure}
use Rattle.sqlite.specs.declared.error.ErrorCode.TheVariants as code
use Rattle.sqlite.specs.Opening.{is_open_error}
use Rattle.exif_catalog_file.specs.declared.errors.CatalogError.{CatalogError}
use Rattle.exif_catalog_file.specs.declared.errors.CatalogError.TheVariants as error
use Rattle.exif_catalog_file.specs.declared.errors.RunError.{RunError}
use Rattle.exif_catalog_file.specs.declared.errors.RunError.TheVariants as run

-- a failure of the database; that it lacks memory is no failure of the database
abbrev pub database_error : Error → CatalogError
database_error (SqliteFailure code.OutOfMemory) = error.OutOfMemory
database_error e = error.Database e

-- the failure of a database
abbrev pub IsFailure : CatalogError → Type 0
IsFailure e = (why : Error) × (e ≡ database_error why)

-- it is one by which a database is not opened
abbrev pub IsOpenFailure : CatalogError → Type 0
IsOpenFailure e = (why : Error) × IsTrue (is_open_error why) × (e ≡ database_error why)

-- the same of the file system, by the kind of its failure
abbrev pub file_error_of : ErrorKind → io.Error → CatalogError
file_error_of kind.OutOfMemory e = error.OutOfMemory
file_error_of _ e = error.Unreadable e

abbrev pub file_error : io.Error → CatalogError
file_error e = file_error_of (error_kind e) e

-- what is printed of another version, by whether it is newer than version 2
abbrev pub version_text : Bool → ℤ → List ℕ
version_text newer version = codes "a catalogue of version " ++ signed_decimal version
    ++ (if newer then codes ", by a newer program; this one reads version 2"
    else codes "; this program reads version 2: move it away, and make a new one")

-- what is printed of an error; the texts of the system and of the database are not known
abbrev pub error_text : CatalogError → Option (List ℕ)
error_text error.Absent = Some (codes "no such catalogue: `catalog` makes one")
error_text error.NotAFile = Some (codes "not a regular file")
error_text (error.Unreadable e) = None
error_text error.NotMade =
    Some (codes "it can't be made: its folder is missing, or can't be written")
error_text error.ReadOnly =
    Some (codes "it can't be changed: the file or its folder can't be written")
error_text error.Linked = Some (codes "the database or its log has a second name, or is a link")
error_text error.Journal =
    Some (codes "a program that wrote it was interrupted: open it with sqlite3 first")
error_text error.NotADatabase = Some (codes "not a SQLite database")
error_text error.OtherTables = Some (codes "a database that is no catalogue of pictures")
error_text (error.OtherVersion version) = Some (version_text (int_lt (pos 2) version) version)
error_text error.NoPath = Some (codes "a row without a path")
error_text error.NotAQuery = Some (codes "expected a query that begins with SELECT")
error_text (error.Database e) = None
error_text error.OutOfMemory = Some (codes "out of memory")

-- why a line is not handed on: its end needs memory, or who takes it ends the run
abbrev pub is_hand_error : {E : Type 0} → RunError E → Bool
is_hand_error (run.Caller why) = true
is_hand_error (run.Catalog error.OutOfMemory) = true
is_hand_error (run.Catalog _) = false

-- the file of a database cannot be opened, or made
abbrev pub is_closed : Error → Bool
is_closed (SqliteFailure code.CannotOpen) = true
is_closed _ = false
