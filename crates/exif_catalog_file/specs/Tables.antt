-- Which tables a database has.
use Rattle.std.specs.Prelude.{ℕ, List, String, Bool, ◌==◌, ◌&&◌, ◌||◌, not, count_by, if◌then◌else◌, codes, nat_eq}
use Rattle.std.specs.List.{starts_with}
use Rattle.std.specs.Str.{bytes_eq}
use Rattle.std.specs.Global.{Global}
use Rattle.std.specs.String.{string_bytes}
use Rattle.exif_catalog_file.specs.declared.tables.Tables as declared
use Rattle.exif_catalog_file.specs.declared.tables.Tables.TheVariants as tables

-- SQLite keeps tables of such names for itself (SQLite, "CREATE TABLE", section 2)
abbrev pub is_internal : String Global → Bool
is_internal name = starts_with nat_eq (string_bytes name) (codes "sqlite_")

-- a catalogue's tables
abbrev pub is_own : String Global → Bool
is_own name =
    bytes_eq (string_bytes name) (codes "catalog") || bytes_eq (string_bytes name) (codes "picture")

-- No table; or two, both a catalogue's, since no two have one name; or others.
abbrev pub tables_for : ℕ → ℕ → declared.Tables
tables_for others own = if others == 0 then tables.None
    else (if others == 2 && own == 2 then tables.Catalog else tables.Other)

-- the same by the names of all
abbrev pub tables_of : List (String Global) → declared.Tables
tables_of names =
    tables_for (count_by (λ name. not (is_internal name)) names) (count_by is_own names)
