-- What holds of all pictures.
use Rattle.std.specs.Prelude.{◌≡◌, List, Bool, true, false, Some}
use Rattle.exif_summary.specs.declared.columns.Column.{Column}
use Rattle.exif_types.specs.declared.field.Field.{Field}
use Rattle.exif_catalog_file.specs.Schema.{ColumnType, type_of}
use Rattle.exif_catalog_file.specs.Schema as type
use Rattle.exif_catalog.specs.Values.{Stored, column_value}
use Rattle.exif_catalog.specs.Values as value

-- a column of a STRICT table takes NULL and values of its type (SQLite, "STRICT Tables", section 2)
abbrev pub takes : ColumnType → Stored → Bool
takes t value.null = true
takes type.whole (value.integer n) = true
takes type.real (value.real digits) = true
takes type.text (value.text bytes) = true
takes type.whole (value.real digits) = false
takes type.whole (value.text bytes) = false
takes type.real (value.integer n) = false
takes type.real (value.text bytes) = false
takes type.text (value.integer n) = false
takes type.text (value.real digits) = false

-- and so do those of a picture
abbrev pub ColumnTakes : List Field → Column → Type 0
ColumnTakes fields column = takes (type_of column) (column_value (Some fields) column) ≡ true
