-- Datasets by their names.
use Rattle.std.specs.Prelude.{ℕ, Bool, List, Option, Some, None}
use Rattle.std.specs.List.{find}
use Rattle.std.specs.Option.{option_map}
use Rattle.std.specs.Str.{str_eq_ignore_ascii_case}
use Rattle.exif_iptc.specs.Rows.{DatasetRow, rows_of}
use Rattle.exif_iptc.specs.declared.names.DatasetId.{DatasetId}

-- whether a row has a name, whatever the case of its letters
abbrev pub has_name : List ℕ → DatasetRow → Bool
has_name name row = str_eq_ignore_ascii_case row.name name

-- the dataset of a row of a record
abbrev pub id_in : ℕ → DatasetRow → DatasetId
id_in record_number row = record { record_number = record_number; number = row.number }

-- the dataset of a name in a record
abbrev pub named_in : ℕ → List ℕ → Option DatasetId
named_in record_number name =
    option_map (id_in record_number) (find (has_name name) (rows_of record_number))

-- the first, or else the second
abbrev pub or_else : Option DatasetId → Option DatasetId → Option DatasetId
or_else (Some id) other = Some id
or_else None other = other

-- the dataset of a name: that of the first record that has it
unfoldable pub dataset_of_name : List ℕ → Option DatasetId
dataset_of_name name =
    or_else (named_in 1 name)
    (or_else (named_in 2 name)
    (or_else (named_in 3 name)
    (or_else (named_in 7 name) (or_else (named_in 8 name) (named_in 9 name)))))
