-- How tags are shown.
use Rattle.std.specs.Prelude.{ℕ, List, ◌++◌, codes, Option, Some, None}
use Rattle.std.specs.Fmt.{decimal}
use Rattle.exif_table.specs.Contexts.{context_name}
use Rattle.exif_table.specs.Table.{TagRow}
use Rattle.exif_types.specs.declared.tag.Tag.{Tag}
use Rattle.exif_types.specs.TagRows.{row_of_tag}

-- the context and the number of a tag: `Tag(Exif, 0)`
abbrev pub numbered_text : Tag → List ℕ
numbered_text tag = codes "Tag("
    ++ (context_name tag.0 ++ (codes ", " ++ (decimal tag.1 ++ codes ")")))

-- the name in a row, or another text
abbrev pub name_or : Option TagRow → List ℕ → List ℕ
name_or (Some row) otherwise = row.name
name_or None otherwise = otherwise

-- the name of a tag, else its context and number
abbrev pub tag_text : Tag → List ℕ
tag_text tag = name_or (row_of_tag tag) (numbered_text tag)
