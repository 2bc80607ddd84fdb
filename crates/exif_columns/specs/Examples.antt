-- Worked examples: tags by their names, cells, and lines of a table.
use Rattle.std.specs.Prelude.{◌≡◌, refl, ℕ, List, [], ◌∷◌, codes, map, Option, Some, None, Ok, Err, pos, negsuc}
use Rattle.std.specs.Char.{encode_utf8}
use Rattle.std.specs.Fmt.{digits}
use Rattle.std.specs.Str.{chars, is_utf8}
use Rattle.csv.specs.Writing.{escaped, fields_text, is_blank}
use Rattle.exif_table.specs.declared.context.Context.TheVariants as context
use Rattle.exif_text.specs.Decimal.{decimal_text, fraction_text, in_digits, without_last_zeros}
use Rattle.exif_types.specs.TagRows.{row_of_tag}
use Rattle.exif_types.specs.Units.{unit_text}
use Rattle.exif_types.specs.ValueTexts.{text_of as shown_as}
use Rattle.exif_types.specs.declared.field.Field.{Field}
use Rattle.exif_types.specs.declared.tag.Tag.{Tag}
use Rattle.exif_types.specs.declared.value.Value.{Value}
use Rattle.exif_types.specs.declared.value.Value.TheVariants as value
use Rattle.exif_iptc.specs.Named.{dataset_of_name}
use Rattle.exif_iptc.specs.Rows.{rows_of}
use Rattle.exif_iptc.specs.Values.{DatasetValue, TextIs}
use Rattle.exif_iptc.specs.declared.kind.Kind.TheVariants as kind
use Rattle.exif_xmp.specs.Properties.{PropertyView}
use Rattle.exif_xmp.specs.declared.property.Form.TheVariants.{Text}
use Rattle.exif_columns.specs.Cells.{cell_in, cell_of, header_cells, picture_cells}
use Rattle.exif_columns.specs.Columns.{columns_in, no_dataset, no_prefix, the_dataset, the_path, the_tag}
use Rattle.exif_columns.specs.Lines.{csv_line, line_of, tsv_line}
use Rattle.exif_columns.specs.Names.{tag_of_name, tags_in}
use Rattle.exif_columns.specs.Raw.{raw_value}
use Rattle.exif_columns.specs.ValueCells.{iptc_cell, xmp_cell}
use Rattle.exif_columns.specs.declared.cells.Form.TheVariants.{Display, Raw}
use Rattle.exif_columns.specs.declared.rows.Separator.TheVariants.{Comma, Tab}

-- DateTimeOriginal, Model and FNumber (Exif 2.32, 4.6.4 and 4.6.5)
abbrev date : Tag
date = record { 0 = context.Exif; 1 = 36867 }

abbrev model : Tag
model = record { 0 = context.Tiff; 1 = 272 }

abbrev f_number : Tag
f_number = record { 0 = context.Exif; 1 = 33437 }

-- ---- names

three_names : tags_in (codes "DateTimeOriginal,Model,FNumber") ≡ Ok (date ∷ model ∷ f_number ∷ [])
unfolding tag_of_name
three_names = refl

in_any_case : tags_in (codes "fnumber,MODEL") ≡ Ok (f_number ∷ model ∷ [])
unfolding tag_of_name
in_any_case = refl

unknown_name : tags_in (codes "Model,Fnumbr,Aperture") ≡ Err (codes "Fnumbr")
unfolding tag_of_name
unknown_name = refl

no_name : tags_in (codes "Model,") ≡ Err []
unfolding tag_of_name
no_name = refl

-- ---- values as numbers and texts

-- 28 / 10 = 2.8 and 1 / 125 = 0.008
decimals : raw_value
    (value.Rational (record { num = 28; denom = 10 } ∷ record { num = 1; denom = 125 } ∷ []))
    ≡ codes "2.8 0.008"
unfolding decimal_text fraction_text without_last_zeros in_digits digits
decimals = refl

-- -1 / 3 = -0.333333333..., cut after nine places
below_zero : raw_value (value.SRational (record { num = negsuc 0; denom = pos 3 } ∷ []))
    ≡ codes "-0.333333333"
unfolding decimal_text fraction_text without_last_zeros in_digits digits
below_zero = refl

over_zero : raw_value (value.Rational (record { num = 1; denom = 0 } ∷ [])) ≡ []
over_zero = refl

integers : raw_value (value.Short (8 ∷ 8 ∷ 8 ∷ [])) ≡ codes "8 8 8"
unfolding digits
integers = refl

-- "0232" are the bytes 30, 32, 33 and 32 in hexadecimal
version : raw_value (value.Undefined (codes "0232") 0) ≡ codes "30323332"
version = refl

-- the byte E9 is the letter é of Latin-1, which UTF-8 writes as C3 A9
latin1_text : raw_value (value.Ascii ((67 ∷ 97 ∷ 102 ∷ 233 ∷ []) ∷ []))
    ≡ 67 ∷ 97 ∷ 102 ∷ 195 ∷ 169 ∷ []
unfolding is_utf8 chars encode_utf8
latin1_text = refl

-- ---- cells

-- a field
abbrev field : Tag → ℕ → Value → Field
field tag directory value = record { tag = tag; ifd_num = record { 0 = directory }; value = value }

-- two models, of which the last counts, and an f-number; the second directory has another model
abbrev fields : List Field
fields =
    field model 0 (value.Ascii (codes "A" ∷ []))
    ∷ field model 0 (value.Ascii (codes "B, \"C\"" ∷ []))
    ∷ field f_number 0 (value.Rational (record { num = 28; denom = 10 } ∷ []))
    ∷ field model 1 (value.Ascii (codes "D" ∷ [])) ∷ []

raw_cells : map (cell_in (Some fields) Raw) (model ∷ f_number ∷ date ∷ [])
    ≡ codes "B, \"C\"" ∷ codes "2.8" ∷ [] ∷ []
unfolding decimal_text fraction_text without_last_zeros in_digits digits is_utf8 chars encode_utf8
raw_cells = refl

-- with its unit: the f-number as f/2.8
shown_cell : cell_of fields Display f_number ≡ codes "f/2.8"
unfolding unit_text shown_as row_of_tag decimal_text fraction_text without_last_zeros in_digits digits
shown_cell = refl

no_cells : map (cell_in None Raw) (model ∷ date ∷ []) ≡ [] ∷ [] ∷ []
no_cells = refl

-- ---- lines

-- RFC 4180, section 2: the examples of rules 5 to 7
rule_5 : csv_line (codes "aaa" ∷ codes "bbb" ∷ codes "ccc" ∷ []) ≡ codes "aaa,bbb,ccc\n"
unfolding fields_text is_blank
rule_5 = refl

rule_6 : csv_line (codes "aaa" ∷ codes "b\r\nbb" ∷ codes "ccc" ∷ []) ≡ codes "aaa,\"b\r\nbb\",ccc\n"
unfolding fields_text is_blank escaped
rule_6 = refl

rule_7 : csv_line (codes "aaa" ∷ codes "b\"bb" ∷ codes "ccc" ∷ []) ≡ codes "aaa,\"b\"\"bb\",ccc\n"
unfolding fields_text is_blank escaped
rule_7 = refl

picture : line_of Comma
    (picture_cells (codes "a.jpg") (Some fields) Raw (model ∷ f_number ∷ date ∷ []))
    ≡ codes "a.jpg,\"B, \"\"C\"\"\",2.8,\n"
unfolding fields_text is_blank escaped decimal_text fraction_text without_last_zeros in_digits digits is_utf8 chars encode_utf8
picture = refl

in_tabs : tsv_line (codes "a\tb" ∷ codes "c\\d" ∷ codes "e\r\nf" ∷ [])
    ≡ codes "a\\tb\tc\\\\d\te\\r\\nf\n"
in_tabs = refl

head : line_of Tab (header_cells (date ∷ model ∷ f_number ∷ []))
    ≡ codes "path\tDateTimeOriginal\tModel\tFNumber\n"
unfolding row_of_tag
head = refl

-- ---- columns of XMP and IPTC

four_columns : columns_in (codes "Model,xmp:Rating,iptc:keywords,mwg-rs:Regions/mwg-rs:RegionList[1]")
    ≡ Ok (the_tag model ∷ the_path (codes "xmp:Rating")
    ∷ the_dataset (record { record_number = 2; number = 25 })
    ∷ the_path (codes "mwg-rs:Regions/mwg-rs:RegionList[1]") ∷ [])
unfolding tag_of_name dataset_of_name rows_of
four_columns = refl

unknown_prefix : columns_in (codes "Model,foo:Bar") ≡ Err (no_prefix (codes "foo:Bar"))
unfolding tag_of_name
unknown_prefix = refl

unknown_dataset : columns_in (codes "iptc:Keyword") ≡ Err (no_dataset (codes "Keyword"))
unfolding dataset_of_name rows_of
unknown_dataset = refl

-- a text at a path
abbrev property : List ℕ → Option (List ℕ) → List ℕ → PropertyView
property path language text = record {
  namespace = [];
  path = path;
  text = text;
  language = language;
  value = record { start = 0; end = 0 };
  whole = record { start = 0; end = 0 };
  form = Text;
}

-- a rating, two keywords and a title in two languages; a second packet has one other keyword
abbrev properties : List PropertyView
properties =
    property (codes "xmp:Rating") None (codes "4")
    ∷ property (codes "dc:subject[1]") None (codes "beach")
    ∷ property (codes "dc:subject[2]") None (codes "sun")
    ∷ property (codes "dc:title[1]") (Some (codes "de")) (codes "Hafen")
    ∷ property (codes "dc:title[2]") (Some (codes "x-default")) (codes "Harbour")
    ∷ property (codes "dc:subject[1]") None (codes "hill") ∷ []

xmp_cells :
    map (xmp_cell properties)
    (codes "xmp:Rating" ∷ codes "dc:subject" ∷ codes "dc:subject[2]" ∷ codes "dc:title"
    ∷ codes "dc:creator" ∷ [])
    ≡ codes "4" ∷ codes "beach; sun" ∷ codes "sun" ∷ codes "Harbour" ∷ [] ∷ []
unfolding digits is_utf8 chars encode_utf8
xmp_cells = refl

-- a text of a dataset of the application record
abbrev dataset : ℕ → List ℕ → DatasetValue
dataset number text = record {
  dataset = record { record_number = 2; number = number; start = 0; end = 0 };
  name = None;
  kind = kind.Text;
  content = TextIs text;
}

-- keywords (2:25) are repeatable, a city (2:90) is not
abbrev datasets : List DatasetValue
datasets =
    dataset 25 (codes "beach") ∷ dataset 90 (codes "Hobart") ∷ dataset 25 (codes "sun")
    ∷ dataset 90 (codes "Perth") ∷ []

iptc_cells :
    map (iptc_cell datasets)
    (record { record_number = 2; number = 25 } ∷ record { record_number = 2; number = 90 }
    ∷ record { record_number = 2; number = 5 } ∷ [])
    ≡ codes "beach; sun" ∷ codes "Hobart" ∷ [] ∷ []
iptc_cells = refl
