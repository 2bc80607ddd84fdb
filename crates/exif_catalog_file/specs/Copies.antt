-- What is beside a database, and copies of both in memory.
use Rattle.std.specs.Prelude.{ℕ, List, ◌++◌, Bool, true, false, codes}
use Rattle.sqlite.specs.declared.error.Error.TheVariants.{SqliteFailure}
use Rattle.sqlite.specs.declared.error.ErrorCode.TheVariants as code
use Rattle.exif_catalog_file.specs.declared.errors.CatalogError.{CatalogError}
use Rattle.exif_catalog_file.specs.declared.errors.CatalogError.TheVariants as error

-- the path of the log of a database (SQLite, "Write-Ahead Logging", section 2)
abbrev pub log_path : List ℕ → List ℕ
log_path path = path ++ codes "-wal"

-- that of its rollback journal (SQLite, "Temporary Files Used By SQLite", section 2.1)
abbrev pub journal_path : List ℕ → List ℕ
journal_path path = path ++ codes "-journal"

-- why a file, or what is beside it, is not read or not what it has to be
abbrev pub is_moment_error : CatalogError → Bool
is_moment_error error.Linked = true
is_moment_error (error.Unreadable e) = true
is_moment_error error.OutOfMemory = true
is_moment_error _ = false

-- the same of a rollback journal
abbrev pub is_journal_error : CatalogError → Bool
is_journal_error error.Journal = true
is_journal_error (error.Unreadable e) = true
is_journal_error error.OutOfMemory = true
is_journal_error _ = false

-- the same of a database, its log and its journal
abbrev pub is_names_error : CatalogError → Bool
is_names_error error.Journal = true
is_names_error e = is_moment_error e

-- a file that cannot be read
abbrev pub is_read_error : CatalogError → Bool
is_read_error (error.Unreadable e) = true
is_read_error error.OutOfMemory = true
is_read_error _ = false

-- why there is no copy: the same, or the database is written meanwhile
abbrev pub is_copy_error : CatalogError → Bool
is_copy_error (error.Database (SqliteFailure code.DatabaseBusy)) = true
is_copy_error e = is_names_error e

-- why a database cannot be opened at all: what is beside it, or what its folder lets nobody do
abbrev pub is_cause : CatalogError → Bool
is_cause error.NotMade = true
is_cause error.ReadOnly = true
is_cause e = is_names_error e
