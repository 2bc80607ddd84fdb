-- A run over a catalogue.
use Rattle.std.specs.Prelude.{ℕ, List, [], ◌∷◌, Bool, false, String, Option, Some, None, if◌then◌else◌, option_map}
use Rattle.std.specs.BTreeMap.{get_by_text}
use Rattle.std.specs.Borrow.{Bor}
use Rattle.std.specs.Global.{Global}
use Rattle.std.specs.Str.{bytes_eq}
use Rattle.std.specs.String.{string_bytes}
use Rattle.exif_catalog.specs.Known.{has_stamp, mark_of, seen}
use Rattle.exif_catalog.specs.Totals.{marked, moved}
use Rattle.exif_catalog.specs.declared.catalog.Catalog.{Catalog}
use Rattle.exif_catalog.specs.declared.hashes.Move.{Move}
use Rattle.exif_catalog.specs.declared.known.Known.{Known}
use Rattle.exif_catalog.specs.declared.known.Stamp.{Stamp}
use Rattle.exif_catalog.specs.declared.totals.Totals.{Totals}
use Rattle.exif_catalog.specs.declared.values.SqlValue.{SqlValue}
use Rattle.exif_catalog.specs.declared.values.SqlValue.TheVariants as sql

-- what a run knows of a path
abbrev pub known_at : Catalog → List ℕ → Option Known
known_at catalog path = get_by_text catalog.rows path

-- what it knows of paths once a file was seen
abbrev pub known_after : Catalog → List ℕ → List ℕ → Option Known
known_after catalog path q =
    if bytes_eq path q then option_map seen (known_at catalog path) else known_at catalog q

-- the text of a value that is one
abbrev pub text_in : SqlValue → Option (List ℕ)
text_in (sql.Text t) = Some (string_bytes t)
text_in sql.Null = None
text_in (sql.Integer n) = None
text_in (sql.Real t) = None

-- the path with which a row begins
abbrev pub path_of : List SqlValue → Option (List ℕ)
path_of [] = None
path_of (value ∷ values) = text_in value

-- a row begins with the path
abbrev pub has_path : List ℕ → List SqlValue → Bool
has_path path values = elim (path_of values) [ Some text ↦ bytes_eq text path | None ↦ false ]

-- the picture has a row, and its file had that stamp when it was read
abbrev pub has_stamp_of : Option Known → Option Stamp → Bool
has_stamp_of known None = false
has_stamp_of known (Some stamp) = has_stamp known stamp

-- what is counted of a row, by how its mark changes
abbrev pub marked_if : Totals → Option Bool → Totals
marked_if totals None = totals
marked_if totals (Some is_removed) = marked totals is_removed

-- what is counted of rows, one after the other
abbrev pub marks_in : List (Bor (List ℕ)) → Totals → List (String Global × Known) → Totals
marks_in roots totals [] = totals
marks_in roots totals (row ∷ rows) =
    marks_in roots (marked_if totals (mark_of (string_bytes row.0) row.1 roots)) rows

-- what is counted of files that were moved
abbrev pub moved_times : Totals → List Move → Totals
moved_times totals [] = totals
moved_times totals (move ∷ moves) = moved_times (moved totals) moves

-- what is known of a path once files were moved: nothing of an old path
abbrev pub forgotten : List Move → Option Known → List ℕ → Option Known
forgotten [] known q = known
forgotten (move ∷ moves) known q =
    forgotten moves (if bytes_eq (string_bytes move.old) q then None else known) q
