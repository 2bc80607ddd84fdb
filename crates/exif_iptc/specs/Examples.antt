-- Worked examples: data that exiftool 12.57 wrote; where they are others, it is said.
use Rattle.std.specs.Prelude.{◌≡◌, refl, ℕ, List, [], ◌∷◌, ◌++◌, Some, None, Ok, Err, codes}
use Rattle.std.specs.Char.{encode_utf8}
use Rattle.std.specs.Str.{chars, is_utf8}
use Rattle.std.specs.Str.Lossy.{utf8_error_len, utf8_lossy, utf8_valid_len}
use Rattle.exif_iptc.specs.declared.charset.Charset.TheVariants as charset
use Rattle.exif_iptc.specs.declared.dataset.Dataset.{Dataset}
use Rattle.exif_iptc.specs.declared.fault.Fault.TheVariants as fault
use Rattle.exif_iptc.specs.declared.kind.Kind.{Kind}
use Rattle.exif_iptc.specs.declared.kind.Kind.TheVariants as K
use Rattle.exif_iptc.specs.Datasets.{dataset_at, datasets, scan, scan_by}
use Rattle.exif_iptc.specs.Forms.{separated_date, separated_time}
use Rattle.exif_iptc.specs.Readings.{read, read_lenient}
use Rattle.exif_iptc.specs.Rows.{name_of, rows_of}
use Rattle.exif_iptc.specs.Texts.{text_of}
use Rattle.exif_iptc.specs.Values.{BytesAre, DatasetValue, NumberIs, TextIs, ValueContent}

-- a dataset, and where its value is
abbrev dataset : ℕ → ℕ → ℕ → ℕ → Dataset
dataset record_number number start end =
    record { record_number = record_number; number = number; start = start; end = end }

abbrev value : Dataset → List ℕ → Kind → ValueContent → DatasetValue
value d name kind content =
    record { dataset = d; name = Some name; kind = kind; content = content }

-- the character set, the version of the envelope, and the keyword Zürich, in UTF-8
abbrev utf8_data : List ℕ
utf8_data =
    0x1c ∷ 1 ∷ 90 ∷ 0 ∷ 3 ∷ 0x1b ∷ 0x25 ∷ 0x47
    ∷ 0x1c ∷ 1 ∷ 0 ∷ 0 ∷ 2 ∷ 0 ∷ 4
    ∷ 0x1c ∷ 2 ∷ 25 ∷ 0 ∷ 7 ∷ 0x5a ∷ 0xc3 ∷ 0xbc ∷ codes "rich"

utf8_values : read utf8_data
    ≡ Ok (value (dataset 1 90 5 8) (codes "CodedCharacterSet") K.Text
    (TextIs (0x1b ∷ codes "%G"))
    ∷ value (dataset 1 0 13 15) (codes "EnvelopeRecordVersion") K.Number (NumberIs 4)
    ∷ value (dataset 2 25 20 27) (codes "Keywords") K.Text
    (TextIs (0x5a ∷ 0xc3 ∷ 0xbc ∷ codes "rich")) ∷ [])
unfolding scan_by dataset_at rows_of utf8_lossy utf8_valid_len is_utf8 chars encode_utf8
utf8_values = refl

-- the same keyword in Latin-1
abbrev latin_data : List ℕ
latin_data = 0x1c ∷ 2 ∷ 25 ∷ 0 ∷ 6 ∷ 0x5a ∷ 0xfc ∷ codes "rich"

latin_values : read latin_data
    ≡ Ok (value (dataset 2 25 5 11) (codes "Keywords") K.Text
    (TextIs (0x5a ∷ 0xc3 ∷ 0xbc ∷ codes "rich")) ∷ [])
unfolding scan_by dataset_at rows_of encode_utf8
latin_values = refl

-- It’s “s” – 10 €
quotes : text_of charset.Latin1
    (codes "It" ++ 0x92 ∷ codes "s " ++ 0x93 ∷ codes "s" ++ 0x94 ∷ 0x20 ∷ 0x96
    ∷ codes " 10 " ++ 0x80 ∷ [])
    ≡ codes "It" ++ 0xe2 ∷ 0x80 ∷ 0x99 ∷ codes "s " ++ 0xe2 ∷ 0x80 ∷ 0x9c ∷ codes "s"
    ++ 0xe2 ∷ 0x80 ∷ 0x9d ∷ 0x20 ∷ 0xe2 ∷ 0x80 ∷ 0x93 ∷ codes " 10 " ++ 0xe2 ∷ 0x82 ∷ 0xac ∷ []
unfolding encode_utf8
quotes = refl

-- another escape sequence, ESC . A
unknown : (read_lenient (0x1c ∷ 1 ∷ 90 ∷ 0 ∷ 3 ∷ 0x1b ∷ 0x2e ∷ 0x41 ∷ latin_data)).charset
    ≡ charset.Unknown
unfolding scan_by dataset_at
unknown = refl

-- the date and the time of creation
abbrev date_data : List ℕ
date_data = 0x1c ∷ 2 ∷ 55 ∷ 0 ∷ 8 ∷ codes "20240501"

abbrev dates_data : List ℕ
dates_data = date_data ++ 0x1c ∷ 2 ∷ 60 ∷ 0 ∷ 11 ∷ codes "123045+1000"

abbrev date_value : DatasetValue
date_value = value (dataset 2 55 5 13) (codes "DateCreated") K.Date (TextIs (codes "2024:05:01"))

dates_values : read dates_data
    ≡ Ok (date_value
    ∷ value (dataset 2 60 18 29) (codes "TimeCreated") K.Time (TextIs (codes "12:30:45+10:00"))
    ∷ [])
unfolding scan_by dataset_at rows_of encode_utf8
dates_values = refl

-- of other forms: a time without its offset, as some programs write it; a day that is not known
no_offset : separated_time (codes "123045") ≡ codes "123045"
no_offset = refl

no_day : separated_date (codes "20240000") ≡ codes "2024:00:00"
no_day = refl

-- the format and the version of a preview, and its bytes
preview_values : read (0x1c ∷ 2 ∷ 200 ∷ 0 ∷ 2 ∷ 0 ∷ 11 ∷ 0x1c ∷ 2 ∷ 201 ∷ 0 ∷ 2 ∷ 0 ∷ 1
    ∷ 0x1c ∷ 2 ∷ 202 ∷ 0 ∷ 6 ∷ codes "abcdef")
    ≡ Ok (value (dataset 2 200 5 7) (codes "ObjectPreviewFileFormat") K.Number (NumberIs 11)
    ∷ value (dataset 2 201 12 14) (codes "ObjectPreviewFileVersion") K.Number (NumberIs 1)
    ∷ value (dataset 2 202 19 25) (codes "ObjectPreviewData") K.Bytes (BytesAre (codes "abcdef"))
    ∷ [])
unfolding scan_by dataset_at rows_of
preview_values = refl

-- zeros behind the last dataset, and other bytes
zeros_behind : datasets (date_data ++ 0 ∷ 0 ∷ 0 ∷ []) ≡ Ok (dataset 2 55 5 13 ∷ [])
unfolding scan_by dataset_at
zeros_behind = refl

bytes_behind : datasets (date_data ++ 0 ∷ 0 ∷ 1 ∷ [])
    ≡ Err (record { fault = fault.NoDataset; offset = 13 })
unfolding scan_by dataset_at
bytes_behind = refl

-- data that are cut off within the second dataset
abbrev cut_data : List ℕ
cut_data = date_data ++ 0x1c ∷ 2 ∷ 60 ∷ 0 ∷ 11 ∷ codes "12"

cut : read cut_data ≡ Err (record { fault = fault.Cut; offset = 13 })
unfolding scan_by dataset_at
cut = refl

cut_lenient : read_lenient cut_data ≡ record {
  values = date_value ∷ [];
  charset = charset.Latin1;
  refusal = Some (record { fault = fault.Cut; offset = 13 });
}
unfolding scan_by dataset_at rows_of encode_utf8
cut_lenient = refl

-- the header of a caption of 40,000 bytes, cut off; a shorter one by hand; a length of nine bytes
long_caption : dataset_at (0x1c ∷ 2 ∷ 120 ∷ 0x80 ∷ 4 ∷ 0 ∷ 0 ∷ 0x9c ∷ 0x40 ∷ codes "xxx")
    ≡ Err fault.Cut
unfolding dataset_at
long_caption = refl

extended : scan (0x1c ∷ 2 ∷ 120 ∷ 0x80 ∷ 4 ∷ 0 ∷ 0 ∷ 0 ∷ 3 ∷ codes "abc")
    ≡ record { datasets = dataset 2 120 9 12 ∷ []; refusal = None }
unfolding scan_by dataset_at
extended = refl

nine_bytes : dataset_at (0x1c ∷ 2 ∷ 120 ∷ 0x80 ∷ 9 ∷ 0 ∷ 0 ∷ 0 ∷ 0 ∷ 0 ∷ 0 ∷ 0 ∷ 0 ∷ 0 ∷ [])
    ≡ Err fault.TooLong
unfolding dataset_at
nine_bytes = refl

-- by hand: a text with zeros at its end, and one that is not UTF-8
ended : text_of charset.Latin1 (codes "City" ++ 0 ∷ 0 ∷ []) ≡ codes "City"
unfolding encode_utf8
ended = refl

not_utf8 : text_of charset.Utf8 (0x5a ∷ 0xfc ∷ codes "r") ≡ 0x5a ∷ 0xef ∷ 0xbf ∷ 0xbd ∷ codes "r"
unfolding utf8_lossy utf8_valid_len utf8_error_len is_utf8 chars encode_utf8
not_utf8 = refl

-- the standard defines no dataset 2:1
no_name : name_of 2 1 ≡ None
unfolding rows_of
no_name = refl
