-- The table of pictures, as SQL.
use Rattle.std.specs.Prelude.{ℕ, List, [], ◌∷◌, ◌++◌, codes}
use Rattle.std.specs.List.{flat_map}
use Rattle.exif_summary.specs.Columns.{name_of}
use Rattle.exif_summary.specs.declared.columns.Column.{Column}
use Rattle.exif_summary.specs.declared.columns.Column.TheVariants as column

-- a type of a STRICT table (SQLite, "STRICT Tables", section 2)
pub data ColumnType : Type 0 where
  whole : ColumnType
  real : ColumnType
  text : ColumnType

-- which type a column has
abbrev pub type_of : Column → ColumnType
type_of column.Width = whole
type_of column.Height = whole
type_of column.Orientation = whole
type_of column.Make = text
type_of column.Model = text
type_of column.Lens = text
type_of column.BodySerial = text
type_of column.LensSerial = text
type_of column.Taken = text
type_of column.Digitized = text
type_of column.Changed = text
type_of column.Exposure = real
type_of column.FNumber = real
type_of column.Sensitivity = whole
type_of column.FocalLength = real
type_of column.FocalLength35 = whole
type_of column.Latitude = real
type_of column.Longitude = real
type_of column.Altitude = real
type_of column.Artist = text
type_of column.Copyright = text
type_of column.Description = text
type_of column.Thumbnail = whole

-- its name
abbrev pub type_name : ColumnType → List ℕ
type_name whole = codes "INTEGER"
type_name real = codes "REAL"
type_name text = codes "TEXT"

-- a column after others
abbrev pub column_text : Column → List ℕ
column_text column = codes ", " ++ name_of column ++ codes " " ++ type_name (type_of column)

-- what makes the table
abbrev pub create_text : List Column → List ℕ
create_text columns =
    codes "CREATE TABLE picture (path TEXT NOT NULL PRIMARY KEY, file_size INTEGER, "
    ++ codes "file_modified INTEGER, file_modified_ns INTEGER, file_changed INTEGER, "
    ++ codes "file_changed_ns INTEGER, file_device INTEGER, file_inode INTEGER, "
    ++ codes "hash TEXT, format TEXT, mime TEXT"
    ++ flat_map column_text columns ++ codes ", removed INTEGER NOT NULL DEFAULT 0) STRICT"

-- a column of an answer, after others
abbrev pub answer_column : Column → List ℕ
answer_column column = codes ", " ++ name_of column

-- the columns that are shown of a picture, behind its path
abbrev pub shown_columns : List Column
shown_columns = column.Taken ∷ column.Make ∷ column.Model ∷ column.Exposure ∷ column.FNumber
    ∷ column.Sensitivity ∷ column.FocalLength ∷ column.Latitude ∷ column.Longitude
    ∷ column.Orientation ∷ []

-- what reads the path and columns of the pictures that are there, in order
abbrev pub pictures_text : List Column → List ℕ
pictures_text columns =
    codes "SELECT path" ++ flat_map answer_column columns
    ++ codes " FROM picture WHERE removed = 0 "
    ++ codes "ORDER BY date_taken IS NULL, date_taken, path"
