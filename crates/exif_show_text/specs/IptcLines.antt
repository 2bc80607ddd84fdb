-- The line of an IPTC dataset.
use Rattle.std.specs.Prelude.{ℕ, List, ◌++◌, codes, length, Option, None, Some}
use Rattle.std.specs.Fmt.{decimal}
use Rattle.exif_decisions.specs.Escaping.{escaped_text}
use Rattle.exif_iptc.specs.Values.{BytesAre, DatasetValue, NumberIs, TextIs, ValueContent}
use Rattle.exif_iptc.specs.declared.dataset.Dataset.{Dataset}

-- the numbers of a dataset, where it has no name
abbrev pub named_by : Option (List ℕ) → Dataset → List ℕ
named_by None dataset = decimal dataset.record_number ++ (codes ":" ++ decimal dataset.number)
named_by (Some name) dataset = name

abbrev pub name_text : DatasetValue → List ℕ
name_text value = named_by value.name value.dataset

-- what a dataset says
abbrev pub content_text : ValueContent → List ℕ
content_text (TextIs text) = escaped_text text
content_text (NumberIs number) = decimal number
content_text (BytesAre bytes) = decimal (length bytes) ++ codes " bytes"

abbrev pub iptc_line : DatasetValue → List ℕ
iptc_line value =
    name_text value ++ (codes " (IPTC): " ++ (content_text value.content ++ codes "\n"))
