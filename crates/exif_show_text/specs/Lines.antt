-- The lines of all values of a picture.
use Rattle.std.specs.Prelude.{ℕ, List, [], ◌∷◌, ◌++◌}
use Rattle.exif_iptc.specs.Values.{DatasetValue}
use Rattle.exif_values.specs.Values.{Found}
use Rattle.exif_xmp.specs.Properties.{PropertyView}
use Rattle.exif_show_text.specs.IptcLines.{iptc_line}
use Rattle.exif_show_text.specs.XmpLines.{xmp_line}

-- a text, and behind it the lines of properties
abbrev pub xmp_behind : List ℕ → List PropertyView → List ℕ
xmp_behind text [] = text
xmp_behind text (p ∷ properties) = xmp_behind (text ++ xmp_line p) properties

-- a text, and behind it the lines of datasets
abbrev pub iptc_behind : List ℕ → List DatasetValue → List ℕ
iptc_behind text [] = text
iptc_behind text (v ∷ values) = iptc_behind (text ++ iptc_line v) values

abbrev pub lines_text : Found → List ℕ
lines_text found = iptc_behind (xmp_behind [] found.xmp) found.iptc
