-- The line of an XMP property.
use Rattle.std.specs.Prelude.{ℕ, List, ◌++◌, codes, Option, None, Some}
use Rattle.exif_decisions.specs.Escaping.{escaped_text, readable}
use Rattle.exif_xmp.specs.Properties.{PropertyView}
use Rattle.exif_xmp.specs.declared.property.Form.{Form}
use Rattle.exif_xmp.specs.declared.property.Form.TheVariants.{Text, Unread}

-- where a property is, and the language of its text
abbrev pub place_text : Option (List ℕ) → List ℕ
place_text None = codes "XMP"
place_text (Some language) = codes "XMP, " ++ escaped_text (readable language)

-- the text of a property, or that its form is not read
abbrev pub value_text : Form → List ℕ → List ℕ
value_text Text text = readable text
value_text Unread text = codes "(a form of RDF that is not read)"

abbrev pub xmp_line : PropertyView → List ℕ
xmp_line p =
    escaped_text (readable p.path) ++ (codes " (" ++ (place_text p.language ++ (codes "): "
    ++ (escaped_text (value_text p.form p.text) ++ codes "\n"))))
