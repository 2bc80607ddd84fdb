-- What a column shows, by its name.
use Rattle.std.specs.Prelude.{ℕ, ◌==◌, nat_lt, Bool, true, false, List, [], ◌∷◌, ◌++◌, length, map, codes, Option, Some, None, Result, Ok, Err, Vec, if◌then◌else◌}
use Rattle.std.specs.Global.{Global}
use Rattle.std.specs.List.{after_first, before_first, list_any, position_or_len}
use Rattle.std.specs.Str.{bytes_eq}
use Rattle.std.specs.String.{string_bytes}
use Rattle.exif_iptc.specs.Named.{dataset_of_name}
use Rattle.exif_iptc.specs.Rows.{name_of}
use Rattle.exif_iptc.specs.declared.names.DatasetId.{DatasetId}
use Rattle.exif_types.specs.TagTexts.{tag_text}
use Rattle.exif_types.specs.declared.tag.Tag.{Tag}
use Rattle.exif_columns.specs.Names.{names_in, tag_of_name}
use Rattle.exif_columns.specs.Prefixes.{is_known_prefix}
use Rattle.exif_columns.specs.declared.column.Column.{Column}
use Rattle.exif_columns.specs.declared.column.Column.TheVariants as column
use Rattle.exif_columns.specs.declared.column.UnknownColumn.{UnknownColumn}
use Rattle.exif_columns.specs.declared.column.UnknownColumn.TheVariants as unknown

-- a column: a tag, the path of an XMP property, or an IPTC dataset
pub data TheColumn : Type 0 where
  the_tag : Tag → TheColumn
  the_path : List ℕ → TheColumn
  the_dataset : DatasetId → TheColumn

-- a name that is not known, by what it should be
pub data TheUnknown : Type 0 where
  no_tag : List ℕ → TheUnknown
  no_dataset : List ℕ → TheUnknown
  no_prefix : List ℕ → TheUnknown

-- ---- names

-- the column of a tag
abbrev pub tag_or_unknown : List ℕ → Option Tag → Result TheColumn TheUnknown
tag_or_unknown name (Some tag) = Ok (the_tag tag)
tag_or_unknown name None = Err (no_tag name)

abbrev pub tag_column : List ℕ → Result TheColumn TheUnknown
tag_column name = tag_or_unknown name (tag_of_name name)

-- that of an IPTC dataset
abbrev pub dataset_or_unknown : List ℕ → Option DatasetId → Result TheColumn TheUnknown
dataset_or_unknown name (Some id) = Ok (the_dataset id)
dataset_or_unknown name None = Err (no_dataset name)

abbrev pub dataset_column : List ℕ → Result TheColumn TheUnknown
dataset_column name = dataset_or_unknown name (dataset_of_name name)

-- that of a path which begins with a prefix
abbrev pub path_column : List ℕ → List ℕ → Result TheColumn TheUnknown
path_column prefix path =
    if is_known_prefix prefix then Ok (the_path path) else Err (no_prefix path)

-- what precedes the first colon (58) of a name, and what follows it, if there is one
abbrev pub around_colon : List ℕ → Option (List ℕ × List ℕ)
around_colon name =
    if nat_lt (position_or_len (λ byte. byte == 58) name) (length name)
    then Some (before_first (λ byte. byte == 58) name, after_first (λ byte. byte == 58) name)
    else None

-- the column of a name: a tag without a colon, an IPTC dataset behind `iptc:`, or else a path
abbrev pub column_by : List ℕ → Option (List ℕ × List ℕ) → Result TheColumn TheUnknown
column_by name None = tag_column name
column_by name (Some (prefix, rest)) =
    if bytes_eq prefix (codes "iptc") then dataset_column rest else path_column prefix name

abbrev pub column_of : List ℕ → Result TheColumn TheUnknown
column_of name = column_by name (around_colon name)

-- a column before others
abbrev pub before : TheColumn → Result (List TheColumn) TheUnknown
    → Result (List TheColumn) TheUnknown
before column (Ok columns) = Ok (column ∷ columns)
before column (Err unknown) = Err unknown

-- the column of a name before others, if it is known
abbrev pub before_others : Result TheColumn TheUnknown → Result (List TheColumn) TheUnknown
    → Result (List TheColumn) TheUnknown
before_others (Ok column) others = before column others
before_others (Err unknown) others = Err unknown

-- the columns of names, or the first name that is not known
abbrev pub columns_from : List (List ℕ) → Result (List TheColumn) TheUnknown
columns_from [] = Ok []
columns_from (name ∷ names) = before_others (column_of name) (columns_from names)

-- those of a list of names
abbrev pub columns_in : List ℕ → Result (List TheColumn) TheUnknown
columns_in list = columns_from (names_in list)

-- the name of a dataset, which has one
abbrev pub name_or_none : Option (List ℕ) → List ℕ
name_or_none None = []
name_or_none (Some name) = name

abbrev pub dataset_text : DatasetId → List ℕ
dataset_text id = codes "iptc:" ++ name_or_none (name_of id.record_number id.number)

-- the name of a column
abbrev pub column_text : TheColumn → List ℕ
column_text (the_tag tag) = tag_text tag
column_text (the_path path) = path
column_text (the_dataset id) = dataset_text id

-- whether a column shows XMP properties or IPTC values, and whether one of these does
abbrev pub is_value : Column → Bool
is_value (column.Tag tag) = false
is_value (column.Xmp path) = true
is_value (column.Iptc id) = true

abbrev pub shows_values : List Column → Bool
shows_values columns = list_any is_value columns

-- ---- as the code has them

abbrev pub column_seen : Column → TheColumn
column_seen (column.Tag tag) = the_tag tag
column_seen (column.Xmp path) = the_path (string_bytes path)
column_seen (column.Iptc id) = the_dataset id

abbrev pub unknown_seen : UnknownColumn → TheUnknown
unknown_seen (unknown.Tag name) = no_tag name.now
unknown_seen (unknown.Dataset name) = no_dataset name.now
unknown_seen (unknown.Prefix name) = no_prefix name.now

abbrev pub answer_seen : Result Column UnknownColumn → Result TheColumn TheUnknown
answer_seen (Ok column) = Ok (column_seen column)
answer_seen (Err unknown) = Err (unknown_seen unknown)

abbrev pub columns_seen : Result (Vec Column Global) UnknownColumn
    → Result (List TheColumn) TheUnknown
columns_seen (Ok columns) = Ok (map column_seen columns.items)
columns_seen (Err unknown) = Err (unknown_seen unknown)
