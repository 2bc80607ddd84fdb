-- The lines of the parts of a file, for people.
use Rattle.std.specs.Prelude.{ℕ, ◌+◌, ◌^◌, ◌==◌, ◌&&◌, nat_lt, not, Bool, true, false, if◌then◌else◌, List, [], ◌∷◌, ◌++◌, codes, Option, Some, None}
use Rattle.std.specs.List.{list_any}
use Rattle.exif_check.specs.Names.{is_listed, line_text}
use Rattle.exif_inventory.specs.declared.kind.Kind.{Kind}
use Rattle.exif_inventory.specs.declared.kind.Kind.TheVariants as kind
use Rattle.exif_check.specs.declared.checked.Checked.{Checked}
use Rattle.exif_check.specs.declared.checked.Location.{Location}
use Rattle.exif_check.specs.declared.checked.Location.TheVariants as location

-- the line of a part behind the name of its file
abbrev pub file_line : List ℕ → Checked → List ℕ
file_line name checked = name ++ (codes ": " ++ (line_text checked ++ codes "\n"))

-- whether a part is one that is not known, and may hold a location
abbrev pub is_unknown : Kind → Bool
is_unknown kind.Unknown = true
is_unknown k = false

abbrev pub may_hold : Location → Bool
may_hold location.Unknown = true
may_hold l = false

abbrev pub is_open : Checked → Bool
is_open checked =
    is_unknown checked.part.kind && (may_hold checked.location && not checked.maker_note)

-- two parts as one of this length
abbrev pub of_len : ℕ → Checked → Checked
of_len len first = record {
  part = record {
    kind = first.part.kind;
    picture = first.part.picture;
    offset = first.part.offset;
    len = len;
    data_offset = first.part.data_offset;
    data_len = first.part.data_len;
  };
  location = first.location;
  maker_note = first.maker_note;
}

-- whether both are open, and the second follows the first in the same picture
abbrev pub goes_on : Checked → Checked → Bool
goes_on first second =
    is_open first && (is_open second
    && ((first.part.offset + first.part.len == second.part.offset)
    && (first.part.picture == second.part.picture)))

-- two parts as one, if they are; no offset is over 2^64 - 1
abbrev pub joined : Checked → Checked → Option Checked
joined first second =
    if nat_lt (first.part.offset + first.part.len) (2 ^ 64)
    && (nat_lt (first.part.len + second.part.len) (2 ^ 64) && goes_on first second)
    then Some (of_len (first.part.len + second.part.len) first) else None

-- a text, and behind it the line of a part, if it is listed
abbrev pub with_line : List ℕ → List ℕ → Checked → List ℕ
with_line name text checked =
    if is_listed checked then text ++ file_line name checked else text

-- a text, and behind it the lines of a part and of those behind it, by what they are as one
abbrev pub lines_from : List ℕ → List ℕ → Checked → List Checked → List ℕ
lines_from name text last [] = with_line name text last
lines_from name text last (checked ∷ parts) = elim (joined last checked) [
  | Some longer ↦ lines_from name text longer parts
  | None ↦ lines_from name (with_line name text last) checked parts
]

-- the lines of those of these parts that are listed
abbrev pub listed_lines : List ℕ → List Checked → List ℕ
listed_lines name [] = []
listed_lines name (first ∷ parts) = lines_from name [] first parts

-- a file with these parts: the lines of those that are listed, or that it has no metadata
abbrev pub lines_text : List ℕ → List Checked → List ℕ
lines_text name parts =
    if list_any is_listed parts then listed_lines name parts
    else name ++ codes ": no metadata\n"
