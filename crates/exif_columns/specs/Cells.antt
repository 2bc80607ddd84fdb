-- The cells of a row.
use Rattle.std.specs.Prelude.{ℕ, List, [], ◌∷◌, codes, map, Option, Some, None}
use Rattle.exif_types.specs.Lookup.{last_named}
use Rattle.exif_types.specs.TagTexts.{tag_text}
use Rattle.exif_types.specs.Units.{unit_text}
use Rattle.exif_types.specs.declared.field.Field.{Field}
use Rattle.exif_types.specs.declared.tag.Tag.{Tag}
use Rattle.exif_columns.specs.Raw.{raw_value}
use Rattle.exif_columns.specs.Texts.{text_of}
use Rattle.exif_columns.specs.declared.cells.Form.{Form}
use Rattle.exif_columns.specs.declared.cells.Form.TheVariants.{Display, Raw}

-- what a cell shows of one of the fields: its value with its unit, or as numbers and texts
abbrev pub field_text : List Field → Form → Field → List ℕ
field_text fields Display field = unit_text field fields
field_text fields Raw field = raw_value field.value

-- nothing where there is no field
abbrev pub shown : List Field → Form → Option Field → List ℕ
shown fields form (Some field) = field_text fields form field
shown fields form None = []

-- what a picture's cell shows of a tag: of the last field with it in the first directory
abbrev pub cell_of : List Field → Form → Tag → List ℕ
cell_of fields form tag = shown fields form (last_named fields tag (record { 0 = 0 }))

-- and where there may be no fields
abbrev pub cell_in : Option (List Field) → Form → Tag → List ℕ
cell_in (Some fields) form tag = cell_of fields form tag
cell_in None form tag = []

-- the cells of a picture: its path, and one for each tag
abbrev pub picture_cells : List ℕ → Option (List Field) → Form → List Tag → List (List ℕ)
picture_cells path exif form tags = text_of path ∷ map (cell_in exif form) tags

-- those above them
abbrev pub header_cells : List Tag → List (List ℕ)
header_cells tags = codes "path" ∷ map tag_text tags
