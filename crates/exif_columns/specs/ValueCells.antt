-- Cells of XMP properties and of IPTC datasets.
use Rattle.std.specs.Prelude.{ℕ, ◌==◌, ◌&&◌, ◌||◌, not, Bool, true, false, List, [], ◌∷◌, ◌++◌, codes, if◌then◌else◌}
use Rattle.std.specs.Fmt.{decimal}
use Rattle.std.specs.List.{flat_map}
use Rattle.exif_iptc.specs.Repeats.{is_repeatable}
use Rattle.exif_iptc.specs.Values.{BytesAre, DatasetValue, NumberIs, TextIs, ValueContent}
use Rattle.exif_iptc.specs.declared.names.DatasetId.{DatasetId}
use Rattle.exif_text.specs.Quoted.{hex_byte}
use Rattle.exif_values.specs.Paths.{texts_at}
use Rattle.exif_xmp.specs.Properties.{PropertyView}
use Rattle.exif_columns.specs.Texts.{text_of}

-- what is between two texts, where there is one already
abbrev pub between : Bool → List ℕ
between started = if started then codes "; " else []

-- texts, and behind them those of properties
abbrev pub xmp_behind : List ℕ → Bool → List PropertyView → List ℕ
xmp_behind text started [] = text
xmp_behind text started (p ∷ ps) =
    xmp_behind ((text ++ between started) ++ text_of p.text) true ps

-- what is shown of a path
abbrev pub xmp_cell : List PropertyView → List ℕ → List ℕ
xmp_cell properties path = xmp_behind [] false (texts_at path properties)

-- what a dataset says
abbrev pub content_text : ValueContent → List ℕ
content_text (TextIs text) = text
content_text (NumberIs number) = decimal number
content_text (BytesAre bytes) = flat_map hex_byte bytes

-- whether a value is one of a dataset
abbrev pub is_dataset : DatasetId → DatasetValue → Bool
is_dataset id value =
    (value.dataset.record_number == id.record_number) && (value.dataset.number == id.number)

-- whether it is shown: any of a repeatable dataset, else the first
abbrev pub is_wanted : DatasetId → Bool → DatasetValue → Bool
is_wanted id started value =
    is_dataset id value && (not started || is_repeatable id.record_number id.number)

-- texts, and behind them those of the values of a dataset
abbrev pub iptc_behind : DatasetId → List ℕ → Bool → List DatasetValue → List ℕ
iptc_behind id text started [] = text
iptc_behind id text started (v ∷ vs) =
    if is_wanted id started v
    then iptc_behind id ((text ++ between started) ++ content_text v.content) true vs
    else iptc_behind id text started vs

-- what is shown of a dataset
abbrev pub iptc_cell : List DatasetValue → DatasetId → List ℕ
iptc_cell values id = iptc_behind id [] false values
