-- Tags by their names.
use Rattle.std.specs.Prelude.{ℕ, Bool, ◌==◌, List, [], ◌∷◌, map, Option, Some, None, Result, Ok, Err, Vec}
use Rattle.std.specs.Global.{Global}
use Rattle.std.specs.List.{find, slice_split}
use Rattle.std.specs.Option.{option_map}
use Rattle.std.specs.Str.{str_eq_ignore_ascii_case}
use denote.Ref.{Bor}
use Rattle.exif_table.specs.Rows.{rows_of}
use Rattle.exif_table.specs.Table.{TagRow}
use Rattle.exif_table.specs.declared.context.Context.{Context}
use Rattle.exif_table.specs.declared.context.Context.TheVariants.{Tiff, Exif, Gps, Interop}
use Rattle.exif_types.specs.declared.tag.Tag.{Tag}

-- whether a row has a name, whatever the case of its letters
abbrev pub has_name : List ℕ → TagRow → Bool
has_name name row = str_eq_ignore_ascii_case row.name name

-- the tag of a row
abbrev pub tag_in : Context → TagRow → Tag
tag_in context row = record { 0 = context; 1 = row.number }

-- the tag of a name in a context
abbrev pub named_in : Context → List ℕ → Option Tag
named_in context name = option_map (tag_in context) (find (has_name name) (rows_of context))

-- the first, or else the second
abbrev pub or_else : Option Tag → Option Tag → Option Tag
or_else (Some tag) other = Some tag
or_else None other = other

-- the tag of a name; a name of several contexts is that of the first
unfoldable pub tag_of_name : List ℕ → Option Tag
tag_of_name name =
    or_else (named_in Tiff name)
    (or_else (named_in Exif name) (or_else (named_in Gps name) (named_in Interop name)))

-- the names in a list, between its commas (44)
abbrev pub names_in : List ℕ → List (List ℕ)
names_in list = slice_split (λ byte. byte == 44) list

-- a tag before others
abbrev pub before : Tag → Result (List Tag) (List ℕ) → Result (List Tag) (List ℕ)
before tag (Ok tags) = Ok (tag ∷ tags)
before tag (Err name) = Err name

-- the tag of a name before others, if it is known
abbrev pub before_others : List ℕ → Option Tag → Result (List Tag) (List ℕ)
    → Result (List Tag) (List ℕ)
before_others name (Some tag) others = before tag others
before_others name None others = Err name

-- the tags of names, or the first name that is not known
abbrev pub tags_from : List (List ℕ) → Result (List Tag) (List ℕ)
tags_from [] = Ok []
tags_from (name ∷ names) = before_others name (tag_of_name name) (tags_from names)

-- those of a list of names
abbrev pub tags_in : List ℕ → Result (List Tag) (List ℕ)
tags_in list = tags_from (names_in list)

-- ---- as the code has them

-- the bytes of texts
abbrev pub names_seen : List (Bor (List ℕ)) → List (List ℕ)
names_seen names = map (λ name. name.now) names

-- what is answered
abbrev pub tags_seen : Result (Vec Tag Global) (Bor (List ℕ)) → Result (List Tag) (List ℕ)
tags_seen (Ok tags) = Ok tags.items
tags_seen (Err name) = Err name.now
