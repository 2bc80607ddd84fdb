-- What the list of tags says of their values.
use Rattle.std.specs.Prelude.{ℕ, nat_eq, nat_lt, if◌then◌else◌, List, [], ◌∷◌, ◌++◌, codes, length, map, Option, None, Some}
use Rattle.std.specs.Char.{to_ascii_lowercase}
use Rattle.std.specs.Str.{chars}
use Rattle.strsim.specs.Edits.{levenshtein_row}
use Rattle.exif_files.specs.Names.{name_if}
use Rattle.exif_table.specs.Rows.{rows_of}
use Rattle.exif_table.specs.Table.{TagRow}
use Rattle.exif_table.specs.declared.context.Context.{Context}
use Rattle.exif_table.specs.declared.context.Context.TheVariants.{Tiff, Exif, Gps, Interop}
use Rattle.exif_decisions.specs.declared.tags.Near.{Near}
use Rattle.std.specs.Str.{str_eq_ignore_ascii_case}
use Rattle.exif_columns.specs.Names.{tag_of_name}
use Rattle.exif_types.specs.TagTexts.{tag_text}
use Rattle.exif_assign.specs.Assigning.{around}
use Rattle.exif_types.specs.declared.tag.Tag.{Tag}
use Rattle.exif_assign.specs.Rules.{spelling_of}
use Rattle.exif_assign.specs.declared.rules.Spelling.{Spelling}
use Rattle.exif_assign.specs.declared.rules.Spelling.TheVariants.{Nothing, Text, Number, Fraction, SignedFraction, Bytes}

-- the word for how a value is written
abbrev pub word_for : Spelling → List ℕ
word_for Nothing = codes "(not settable)"
word_for Text = codes "text"
word_for Number = codes "number"
word_for Fraction = codes "fraction"
word_for SignedFraction = codes "signed fraction"
word_for Bytes = codes "bytes"

-- that of the values of a tag
abbrev pub type_word : Tag → List ℕ
type_word tag = word_for (spelling_of tag)

-- a word that begins with the name of a tag, if there is one, and `=`: the name as the standard has
-- it, or `Location`
abbrev pub with_tag : List ℕ → List ℕ → List ℕ → Option Tag → List ℕ
with_tag word name text (Some tag) = tag_text tag ++ (codes "=" ++ text)
with_tag word name text None =
    if str_eq_ignore_ascii_case name (codes "Location") then codes "Location=" ++ text else word

abbrev pub spelled : List ℕ → List ℕ → List ℕ → List ℕ
spelled word name text = with_tag word name text (tag_of_name name)

abbrev pub spelled_parts : List ℕ → Option (List ℕ × List ℕ) → List ℕ
spelled_parts word None = word
spelled_parts word (Some parts) = spelled word parts.0 parts.1

-- a word whose name before the first `=` (61) is spelled as the standard has it
abbrev pub canonical_word : List ℕ → List ℕ
canonical_word word = spelled_parts word (around 61 word)

-- ---- the nearest name

-- how many edits lead from one name to another one (Levenshtein)
abbrev pub distance : List ℕ → List ℕ → ℕ
distance from to = levenshtein_row nat_eq (chars from) (chars to) (length (chars to))

-- a name and its distance, if that is less than the one so far
abbrev pub nearer_by : List ℕ → ℕ → Option (List ℕ) × ℕ → Option (List ℕ) × ℕ
nearer_by other far best = if nat_lt far best.1 then (Some other, far) else best

-- letters of other names count in lower case
abbrev pub nearer : List ℕ → List ℕ → Option (List ℕ) × ℕ → Option (List ℕ) × ℕ
nearer name other best = nearer_by other (distance name (map to_ascii_lowercase other)) best

-- the nearest of rows, the first of those that are as near
unfoldable pub nearest_of : List ℕ → List TagRow → Option (List ℕ) × ℕ → Option (List ℕ) × ℕ
nearest_of name [] best = best
nearest_of name (row ∷ rows) best = nearest_of name rows (nearer name row.name best)

abbrev pub nearest_in : List ℕ → Context → Option (List ℕ) × ℕ → Option (List ℕ) × ℕ
nearest_in name context best = nearest_of name (rows_of context) best

-- the nearest of all, if it is less than five edits away
abbrev pub nearest_lower : List ℕ → Option (List ℕ) × ℕ
nearest_lower name =
    nearest_in name Interop (nearest_in name Gps (nearest_in name Exif (nearest_in name Tiff
    (None, 5))))

unfoldable pub nearest : List ℕ → Option (List ℕ)
nearest name = (nearest_lower (map to_ascii_lowercase name)).0

abbrev pub near_of : Near → Option (List ℕ) × ℕ
near_of near = (name_if near.name, near.distance)
