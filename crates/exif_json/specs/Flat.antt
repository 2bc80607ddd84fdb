-- A flat JSON object of a picture.
use Rattle.std.specs.Prelude.{ℕ, List, [], ◌∷◌, ◌++◌, codes, Option, Some, None, if◌then◌else◌}
use Rattle.std.specs.List.{flat_map}
use Rattle.std.specs.Str.{is_utf8}
use Rattle.json.specs.Json as J
use Rattle.json.specs.Json.{Json}
use Rattle.json.specs.Word.{after_number}
use Rattle.exif_containers.specs.declared.container.Format.TheVariants as known
use Rattle.exif_formats.specs.declared.format.PictureFormat.{PictureFormat}
use Rattle.exif_formats.specs.declared.format.PictureFormat.TheVariants as format
use Rattle.exif_summary.specs.Columns.{Shown, cell_of, columns, name_of}
use Rattle.exif_summary.specs.Columns as shown
use Rattle.exif_summary.specs.declared.columns.Column.{Column}
use Rattle.exif_types.specs.declared.field.Field.{Field}
use Rattle.exif_json.specs.Files.{format_json}
use Rattle.exif_json.specs.Summaries.{maybe}
use Rattle.exif_json.specs.Texts.{latin1}
use Rattle.exif_json.specs.Trees.{object, unsigned}
use Rattle.exif_json.specs.declared.flat.FileFacts.{FileFacts}

-- the media type of a format (RFC 6838)
abbrev pub mime_type : PictureFormat → List ℕ
mime_type (format.Container known.Tiff) = codes "image/tiff"
mime_type (format.Container known.Jpeg) = codes "image/jpeg"
mime_type (format.Container known.Heif) = codes "image/heif"
mime_type (format.Container known.WebP) = codes "image/webp"
mime_type format.Png = codes "image/png"
mime_type format.JpegXl = codes "image/jxl"
mime_type format.Raf = codes "image/x-fuji-raf"
mime_type format.Orf = codes "image/x-olympus-orf"
mime_type format.Rw2 = codes "image/x-panasonic-rw2"
mime_type format.Cr3 = codes "image/x-canon-cr3"

-- bytes as a text: as they are where they are UTF-8, else by Latin-1
abbrev pub string_of : List ℕ → List ℕ
string_of bytes = if is_utf8 bytes then bytes else latin1 bytes

-- a text that is a number up to its end
abbrev pub number_or_text : List ℕ → Option (List ℕ) → Json
number_or_text text (Some []) = J.number text
number_or_text text (Some (c ∷ rest)) = J.string text
number_or_text text None = J.string text

-- a text as a number, if it is one, else as a string
abbrev pub number_text : List ℕ → Json
number_text text = number_or_text text (after_number text)

-- what a picture says of a column
abbrev pub shown_json : Shown → Json
shown_json (shown.whole n) = unsigned n
shown_json (shown.decimal text) = number_text text
shown_json (shown.bytes bytes) = J.string (string_of bytes)
shown_json (shown.date text) = J.string text

-- the member of a column, if the picture says something of it
abbrev pub column_members : List Field → Column → List (List ℕ × Json)
column_members fields column = maybe (name_of column) shown_json (cell_of fields column)

-- the same of columns one after the other
abbrev pub columns_members : List Field → List Column → List (List ℕ × Json)
columns_members fields columns = flat_map (column_members fields) columns

-- the members of a format
abbrev pub format_members : Option PictureFormat → List (List ℕ × Json)
format_members None = []
format_members (Some format) =
    (codes "format", format_json format) ∷ (codes "mime", J.string (mime_type format)) ∷ []

-- those on a file
abbrev pub fact_members : FileFacts → List (List ℕ × Json)
fact_members facts =
    (codes "path", J.string (string_of facts.path.now))
    ∷ (format_members facts.format
    ++ (maybe (codes "file_size") unsigned facts.size
    ++ maybe (codes "file_modified") unsigned facts.modified))

-- those of a picture, if it has Exif data
abbrev pub picture_members : Option (List Field) → List (List ℕ × Json)
picture_members None = []
picture_members (Some fields) = columns_members fields columns

-- all of them in one object
abbrev pub flat_json : FileFacts → Option (List Field) → Json
flat_json facts exif = object (fact_members facts ++ picture_members exif)
