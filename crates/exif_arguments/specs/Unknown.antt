-- What is said of names of tags that are not known.
use Rattle.std.specs.Prelude.{ℕ, List, ◌++◌, Option, None, Some, Result, Ok, Err, codes}
use Rattle.exif_assign.specs.Assigning.{around}
use Rattle.exif_columns.specs.Names as columns
use Rattle.exif_decisions.specs.Escaping.{escaped_text}
use Rattle.exif_decisions.specs.Tags.{nearest}
use Rattle.exif_types.specs.declared.tag.Tag.{Tag}

-- a name, with the one that may have been meant, if there is one
abbrev pub unknown_by : List ℕ → Option (List ℕ) → List ℕ
unknown_by name (Some tag) =
    codes "unknown tag '"
    ++ (escaped_text name ++ (codes "'; did you mean '" ++ (tag ++ codes "'?")))
unknown_by name None =
    codes "unknown tag '" ++ (escaped_text name ++ codes "'; run 'mexaldor tags' for a list")

abbrev pub unknown_tag : List ℕ → List ℕ
unknown_tag name = unknown_by name (nearest name)

-- tags, or what is said of the first name that is none
abbrev pub tags_or_wrong : Result (List Tag) (List ℕ) → Result (List Tag) (List ℕ)
tags_or_wrong (Ok tags) = Ok tags
tags_or_wrong (Err name) = Err (unknown_tag name)

-- those of a list of names with commas between them
abbrev pub tags_in : List ℕ → Result (List Tag) (List ℕ)
tags_in list = tags_or_wrong (columns.tags_in list)

-- the name in a word: what is before its first `=` (61), or all of it
abbrev pub front_of : List ℕ → Option (List ℕ × List ℕ) → List ℕ
front_of word (Some parts) = parts.0
front_of word None = word

-- what is said of the name in a word that is no assignment
abbrev pub unassigned : List ℕ → List ℕ
unassigned name =
    unknown_tag name ++ (codes " (for a file, write ./" ++ (escaped_text name ++ codes "=...)"))

abbrev pub unknown_assignment : List ℕ → List ℕ
unknown_assignment word = unassigned (front_of word (around 61 word))
