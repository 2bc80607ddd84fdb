-- The values of a picture's row.
use Rattle.std.specs.Prelude.{ℕ, ℤ, pos, nat_lt, ◌^◌, List, [], ◌∷◌, ◌++◌, Option, Some, None, if◌then◌else◌, map, option_map}
use Rattle.std.specs.String.{string_bytes}
use Rattle.exif_summary.specs.Columns.{Shown, cell_of, columns}
use Rattle.exif_summary.specs.Columns as shown
use Rattle.exif_summary.specs.declared.columns.Column.{Column}
use Rattle.exif_types.specs.declared.field.Field.{Field}
use Rattle.exif_catalog_file.specs.Text.{text_of}
use Rattle.exif_catalog.specs.declared.values.PictureFile.{PictureFile}
use Rattle.exif_catalog.specs.declared.values.SqlValue.{SqlValue}
use Rattle.exif_catalog.specs.declared.values.SqlValue.TheVariants as sql

-- a value of a column: nothing, a whole number, the number that a text is, or a text
pub data Stored : Type 0 where
  null : Stored
  integer : ℤ → Stored
  real : List ℕ → Stored
  text : List ℕ → Stored

-- the code's value as the definitions have it
abbrev pub stored : SqlValue → Stored
stored sql.Null = null
stored (sql.Integer n) = integer n
stored (sql.Real t) = real (string_bytes t)
stored (sql.Text t) = text (string_bytes t)

-- a number, if there is one and it is at most the greatest INTEGER of SQLite
abbrev pub amount_value : Option ℕ → Stored
amount_value None = null
amount_value (Some n) = if nat_lt n (2 ^ 63) then integer (pos n) else null

-- a text, if there is one
abbrev pub maybe_text : Option (List ℕ) → Stored
maybe_text None = null
maybe_text (Some t) = text t

-- what is stored of what a picture says
abbrev pub shown_value : Shown → Stored
shown_value (shown.whole n) = integer (pos n)
shown_value (shown.decimal t) = real t
shown_value (shown.bytes bytes) = text (text_of bytes)
shown_value (shown.date t) = text t

-- that, if the picture says something
abbrev pub maybe_shown : Option Shown → Stored
maybe_shown None = null
maybe_shown (Some s) = shown_value s

-- what is stored in a column of a picture; nothing where there are no Exif data
abbrev pub column_value : Option (List Field) → Column → Stored
column_value None column = null
column_value (Some fields) column = maybe_shown (cell_of fields column)

-- the same in all columns
abbrev pub columns_values : Option (List Field) → List Stored
columns_values exif = map (column_value exif) columns

-- what is stored of a file
abbrev pub file_values : PictureFile → List Stored
file_values file =
    text (text_of file.path.now) ∷ amount_value file.size ∷ amount_value file.modified
    ∷ amount_value file.modified_ns ∷ amount_value file.changed ∷ amount_value file.changed_ns
    ∷ amount_value file.device ∷ amount_value file.inode
    ∷ maybe_text (option_map (λ t. t.now) file.hash)
    ∷ maybe_text (option_map (λ t. t.now) file.format)
    ∷ maybe_text (option_map (λ t. t.now) file.mime) ∷ []

-- a picture's row
abbrev pub row_of : PictureFile → Option (List Field) → List Stored
row_of file exif = file_values file ++ columns_values exif
