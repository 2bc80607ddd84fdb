-- Worked examples of the definitions.
use Rattle.std.specs.Prelude.{◌≡◌, [], ◌∷◌, ◌++◌, pos, codes, Some, Ok, Err, true, false, refl}
use Rattle.std.specs.Char.{encode_utf8}
use Rattle.std.specs.Fmt.{digits}
use Rattle.std.specs.Str.{chars, is_utf8}
use Rattle.sqlite.specs.declared.error.Error.TheVariants.{InvalidColumnIndex, InvalidColumnType}
use Rattle.sqlite.specs.declared.types.Type.TheVariants as sql_type
use Rattle.sqlite_value.specs.declared.value.Value.TheVariants as value
use Rattle.exif_catalog_file.specs.Cells.{begins_word, names_line, tsv_field}
use Rattle.exif_catalog_file.specs.Copies.{log_path}
use Rattle.exif_catalog_file.specs.Errors.{error_text}
use Rattle.exif_catalog_file.specs.Heads.{existing_answer, kind_of, new_answer}
use Rattle.exif_catalog_file.specs.Statements.{number_at, table_answer, texts_at, version_answer}
use Rattle.exif_catalog_file.specs.Tables.{tables_for}
use Rattle.exif_catalog_file.specs.Text.{latin1}
use Rattle.exif_catalog_file.specs.declared.errors.CatalogError.TheVariants as error
use Rattle.exif_catalog_file.specs.declared.heads.FileKind.TheVariants as kind
use Rattle.exif_catalog_file.specs.declared.tables.Tables.TheVariants as tables

-- `é` in Latin-1 is one byte, 233, and in UTF-8 the bytes 195 and 169
pub latin1_e : latin1 (233 ∷ []) ≡ 195 ∷ 169 ∷ []
unfolding encode_utf8
latin1_e = refl

-- a new file, a catalogue, and another database
pub new_file : tables_for 0 0 ≡ tables.None
new_file = refl

pub a_catalogue : tables_for 2 2 ≡ tables.Catalog
a_catalogue = refl

pub one_more_table : tables_for 3 2 ≡ tables.Other
one_more_table = refl

-- a tab and a backslash within a value
pub escaped : tsv_field (97 ∷ 9 ∷ 92 ∷ []) ≡ codes "a\\t\\\\"
escaped = refl

-- queries, and what is none
pub select_1 : begins_word (codes "Select 1") (codes "select") ≡ true
select_1 = refl

pub selected : begins_word (codes "selected") (codes "select") ≡ false
selected = refl

pub delete : begins_word (codes "delete") (codes "select") ≡ false
delete = refl

-- files: an empty one, a text, and what begins as a database does
empty_file : kind_of [] ≡ kind.Empty
empty_file = refl

a_text : kind_of (codes "SQLite format 3.") ≡ kind.Other
a_text = refl

a_database : kind_of (codes "SQLite format 3" ++ 0 ∷ 16 ∷ []) ≡ kind.Database
a_database = refl

-- an empty file is made a catalogue by a run, and is none to what reads
new_empty : new_answer kind.Empty ≡ Ok tt
new_empty = refl

read_empty : existing_answer kind.Empty ≡ Err error.OtherTables
read_empty = refl

-- sqlite3 keeps the log of `a.db` in `a.db-wal`
log_of_a : log_path (codes "a.db") ≡ codes "a.db-wal"
log_of_a = refl

-- catalogues of an older and of a newer version
older : version_answer (Some (pos 1)) ≡ Err (error.OtherVersion (pos 1))
older = refl

this_version : version_answer (Some (pos 2)) ≡ Ok tt
this_version = refl

newer_text : error_text (error.OtherVersion (pos 3))
    ≡ Some (codes "a catalogue of version 3, by a newer program; this one reads version 2")
unfolding digits
newer_text = refl

-- a table that another program made
other_table : table_answer (codes "CREATE TABLE picture (path TEXT)") ≡ Err error.OtherTables
other_table = refl

-- rows of an answer: a text, a number where a text has to be, and a column that there is not
one_text : texts_at ((value.Text (codes "picture") ∷ []) ∷ []) ≡ Ok (codes "picture" ∷ [])
unfolding is_utf8 chars encode_utf8
one_text = refl

no_text : texts_at ((value.Int (pos 7) ∷ []) ∷ [])
    ≡ Err (error.Database (InvalidColumnType 0 sql_type.Integer))
no_text = refl

no_number : number_at (value.Null ∷ []) 1 ≡ Err (error.Database (InvalidColumnIndex 1))
no_number = refl

-- two names of columns
two_names : names_line (codes "path" ∷ codes "make" ∷ []) ≡ codes "path\tmake"
two_names = refl
