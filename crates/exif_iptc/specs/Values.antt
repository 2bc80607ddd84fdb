-- The values of datasets.
use Rattle.std.specs.Prelude.{ℕ, nat_lt, if◌then◌else◌, List, ◌++◌, codes, length, Option, None, Some, string_bytes}
use Rattle.std.specs.Fmt.{decimal}
use Rattle.std.specs.Option.{option_map}
use Rattle.exif_iptc.specs.declared.charset.Charset.{Charset}
use Rattle.exif_iptc.specs.declared.dataset.Dataset.{Dataset}
use Rattle.exif_iptc.specs.declared.kind.Kind.{Kind}
use Rattle.exif_iptc.specs.declared.kind.Kind.TheVariants as K
use Rattle.exif_iptc.specs.declared.value.Content.{Content}
use Rattle.exif_iptc.specs.declared.value.Content.TheVariants as C
use Rattle.exif_iptc.specs.declared.value.Value.{Value}
use Rattle.exif_iptc.specs.Datasets.{value_bytes}
use Rattle.exif_iptc.specs.Forms.{separated_date, separated_time}
use Rattle.exif_iptc.specs.Numbers.{big_endian}
use Rattle.exif_iptc.specs.Rows.{kind_of, name_of}
use Rattle.exif_iptc.specs.Texts.{decoded, text_of, without_zeros}

-- what a value says: a text in UTF-8, a number, or bytes
pub data ValueContent : Type 0 where
  TextIs : List ℕ → ValueContent
  NumberIs : ℕ → ValueContent
  BytesAre : List ℕ → ValueContent

-- a dataset with its name and value
pub record DatasetValue : Type 0 where
  pub dataset : Dataset
  pub name : Option (List ℕ)
  pub kind : Kind
  pub content : ValueContent

-- what a value of a kind says, if texts are in a character set
abbrev pub content_of : Charset → Kind → List ℕ → ValueContent
content_of charset K.Text value = TextIs (text_of charset value)
content_of charset K.Number value =
    if nat_lt 8 (length value) then BytesAre value else NumberIs (big_endian value)
content_of charset K.Date value = TextIs (decoded charset (separated_date (without_zeros value)))
content_of charset K.Time value = TextIs (decoded charset (separated_time (without_zeros value)))
content_of charset K.Bytes value = BytesAre value

abbrev pub value_of : List ℕ → Charset → Dataset → DatasetValue
value_of input charset d = record {
  dataset = d;
  name = name_of d.record_number d.number;
  kind = kind_of d.record_number d.number;
  content = content_of charset (kind_of d.record_number d.number) (value_bytes input d);
}

-- what clauses see of the values of the code
abbrev pub content_view : Content → ValueContent
content_view (C.Text text) = TextIs (string_bytes text)
content_view (C.Number number) = NumberIs number
content_view (C.Bytes bytes) = BytesAre bytes.items

abbrev pub value_view : Value → DatasetValue
value_view v = record {
  dataset = v.dataset;
  name = option_map (λ s. s.now) v.name;
  kind = v.kind;
  content = content_view v.content;
}

-- the name of a dataset, or its numbers
abbrev pub named_by : Option (List ℕ) → Dataset → List ℕ
named_by None d = decimal d.record_number ++ (codes ":" ++ decimal d.number)
named_by (Some name) d = name

abbrev pub label_of : DatasetValue → List ℕ
label_of value = named_by value.name value.dataset
