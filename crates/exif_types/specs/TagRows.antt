-- The tag table by tags (Exif 2.32, section 4.6).
use Rattle.std.specs.Prelude.{ℕ, List, [], Option, Some, None}
use Rattle.exif_table.specs.declared.kind.TextKind.{TextKind}
use Rattle.exif_table.specs.declared.kind.TextKind.TheVariants as K
use Rattle.exif_table.specs.Table.{TagRow, Piece}
use Rattle.exif_table.specs.Rows.{row_of}
use Rattle.exif_types.specs.declared.tag.Tag.{Tag}

-- the row of a tag, if there is one
unfoldable pub row_of_tag : Tag → Option TagRow
row_of_tag tag = row_of tag.0 tag.1

-- the description in a row
abbrev pub description_in : Option TagRow → Option (List ℕ)
description_in (Some row) = Some row.description
description_in None = None

-- what a tag stands for, where there is a row
abbrev pub description_of : Tag → Option (List ℕ)
description_of tag = description_in (row_of_tag tag)

-- the kind in a row; without a row the plain text
abbrev pub kind_in : Option TagRow → TextKind
kind_in (Some row) = row.kind
kind_in None = K.Plain

-- how a tag's value is shown
abbrev pub kind_of : Tag → TextKind
kind_of tag = kind_in (row_of_tag tag)

-- the pieces of the unit in a row
abbrev pub unit_in : Option TagRow → List Piece
unit_in (Some row) = row.unit
unit_in None = []

-- the pieces of a tag's value with its unit
abbrev pub unit_of : Tag → List Piece
unit_of tag = unit_in (row_of_tag tag)
