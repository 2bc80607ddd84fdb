-- What is at a path, and what is refused there.
use Rattle.std.specs.Prelude.{ℕ, List, [], ◌∷◌, ◌++◌, Bool, true, false, Result, Ok, Err, nat_eq, if◌then◌else◌, codes}
use Rattle.std.specs.List.{starts_with}
use Rattle.exif_catalog_file.specs.declared.errors.CatalogError.{CatalogError}
use Rattle.exif_catalog_file.specs.declared.errors.CatalogError.TheVariants as error
use Rattle.exif_catalog_file.specs.declared.heads.FileKind.{FileKind}
use Rattle.exif_catalog_file.specs.declared.heads.FileKind.TheVariants as kind

-- the mark of a SQLite database (SQLite, "Database File Format", section 1.3.1)
abbrev pub mark : List ℕ
mark = codes "SQLite format 3" ++ 0 ∷ []

-- an empty file, a database, or another file
abbrev pub kind_of : List ℕ → FileKind
kind_of [] = kind.Empty
kind_of (byte ∷ head) =
    if starts_with nat_eq (byte ∷ head) mark then kind.Database else kind.Other

-- A run over a catalogue makes one where nothing is, and where an empty file is.
abbrev pub new_answer : FileKind → Result (Unit {0}) CatalogError
new_answer kind.Absent = Ok tt
new_answer kind.Empty = Ok tt
new_answer kind.Database = Ok tt
new_answer kind.Other = Err error.NotADatabase

-- What reads a catalogue makes none.
abbrev pub existing_answer : FileKind → Result (Unit {0}) CatalogError
existing_answer kind.Absent = Err error.Absent
existing_answer kind.Empty = Err error.OtherTables
existing_answer kind.Database = Ok tt
existing_answer kind.Other = Err error.NotADatabase

-- why it is not known what is at a path
abbrev pub is_kind_error : CatalogError → Bool
is_kind_error error.NotAFile = true
is_kind_error (error.Unreadable e) = true
is_kind_error error.OutOfMemory = true
is_kind_error _ = false

-- what a run over a catalogue refuses before it opens the file
abbrev pub is_new_error : CatalogError → Bool
is_new_error error.NotADatabase = true
is_new_error e = is_kind_error e

-- and what reads one
abbrev pub is_existing_error : CatalogError → Bool
is_existing_error error.Absent = true
is_existing_error error.OtherTables = true
is_existing_error error.NotADatabase = true
is_existing_error e = is_kind_error e
