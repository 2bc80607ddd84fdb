-- What a row of the code says.
use Rattle.std.specs.Prelude.{map}
use Rattle.exif_table.specs.declared.row.Row.{Row}
use Rattle.exif_table.specs.declared.row.UnitPiece.{UnitPiece}
use Rattle.exif_table.specs.declared.row.UnitPiece.TheVariants as U
use Rattle.exif_table.specs.declared.row.DefaultValue.{DefaultValue}
use Rattle.exif_table.specs.declared.row.DefaultValue.TheVariants as D
use Rattle.exif_table.specs.Table.{TagRow, Piece, Value, Text, Sibling, Default, NoDefault, Bytes, OneText, Shorts, OneFraction, Undefineds, ContextDependent, Unspecified}

-- a piece of a text with its unit
abbrev pub piece_view : UnitPiece → Piece
piece_view U.Value = Value
piece_view (U.Str s) = Text s.now
piece_view (U.Tag c n) = Sibling c n

-- a default
abbrev pub default_view : DefaultValue → Default
default_view D.None = NoDefault
default_view (D.Byte b) = Bytes b.now
default_view (D.Ascii t) = OneText t.now
default_view (D.Short s) = Shorts s.now
default_view (D.Rational n d) = OneFraction n d
default_view (D.Undefined b) = Undefineds b.now
default_view D.ContextDependent = ContextDependent
default_view D.Unspecified = Unspecified

-- a row
abbrev pub row_view : Row → TagRow
row_view r = record {
  number = r.number;
  name = r.name.now;
  description = r.description.now;
  kind = r.kind;
  unit = map piece_view r.unit.now;
  default = default_view r.default;
}
