-- The texts of values by their tags (Exif 2.32, section 4.6).
use Rattle.std.specs.Prelude.{ℕ, List}
use Rattle.exif_text.specs.Contents.{contents_view}
use Rattle.exif_table.specs.Kinds.{value_text}
use Rattle.exif_types.specs.declared.tag.Tag.{Tag}
use Rattle.exif_types.specs.declared.value.Value.{Value}
use Rattle.exif_types.specs.declared.display.Display.{Display}
use Rattle.exif_types.specs.PlainValues.{plain_of}
use Rattle.exif_types.specs.TagRows.{kind_of}

-- the text of a tag's value
unfoldable pub text_of : Tag → Value → List ℕ
text_of tag value = value_text (kind_of tag) (plain_of value)

-- the text that is shown
unfoldable pub shown_text : Display → List ℕ
shown_text d = value_text d.kind (contents_view d.contents)
