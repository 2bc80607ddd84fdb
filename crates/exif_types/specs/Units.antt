-- The texts of values with their units (Exif 2.32, section 4.6).
use Rattle.std.specs.Prelude.{ℕ, List, [], ◌∷◌, ◌++◌, codes, Option, Some, None}
use Rattle.std.specs.List.{flat_map}
use Rattle.std.specs.Option.{option_map}
use Rattle.exif_table.specs.Table as T
use Rattle.exif_table.specs.Table.{Piece}
use Rattle.exif_text.specs.declared.ifd.In.{In}
use Rattle.exif_types.specs.declared.tag.Tag.{Tag}
use Rattle.exif_types.specs.declared.value.Value.{Value}
use Rattle.exif_types.specs.declared.field.Field.{Field}
use Rattle.exif_types.specs.Defaults.{default_of}
use Rattle.exif_types.specs.Lookup.{last_named}
use Rattle.exif_types.specs.TagRows.{unit_of}
use Rattle.exif_types.specs.TagTexts.{tag_text}
use Rattle.exif_types.specs.ValueTexts.{text_of}

-- a field, and where the tags of its unit are looked up
pub record FieldWithUnit (T : Type 0) : Type 0 where
  pub field : Field
  pub unit : T

-- `[NAME missing]`
abbrev pub missing_text : Tag → List ℕ
missing_text tag = codes "[" ++ (tag_text tag ++ codes " missing]")

-- the text of a tag's value, if there is one
abbrev pub shown_or : Tag → Option Value → List ℕ → List ℕ
shown_or tag (Some value) otherwise = text_of tag value
shown_or tag None otherwise = otherwise

-- the text of a tag's default, if it has one
abbrev pub default_text : Tag → List ℕ
default_text tag = shown_or tag (default_of tag) (missing_text tag)

-- the text of the field of a directory with a tag, else of the tag's default
abbrev pub sibling_text : List Field → In → Tag → List ℕ
sibling_text fields ifd_num tag =
    shown_or tag (option_map (λ f. f.value) (last_named fields tag ifd_num)) (default_text tag)

-- the value's own text, a text, or the text of another tag in the directory
abbrev pub piece_text : Field → List Field → Piece → List ℕ
piece_text field fields T.Value = text_of field.tag field.value
piece_text field fields (T.Text text) = text
piece_text field fields (T.Sibling context number) =
    sibling_text fields field.ifd_num (record { 0 = context; 1 = number })

-- the pieces in their order; without pieces the value's text stands alone
abbrev pub pieces_text : Field → List Field → List Piece → List ℕ
pieces_text field fields [] = text_of field.tag field.value
pieces_text field fields (piece ∷ pieces) = flat_map (piece_text field fields) (piece ∷ pieces)

-- the text of a field's value with its unit, whose tags are looked up among the fields
unfoldable pub unit_text : Field → List Field → List ℕ
unit_text field fields = pieces_text field fields (unit_of field.tag)
