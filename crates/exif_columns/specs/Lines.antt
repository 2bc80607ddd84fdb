-- Lines of cells.
use Rattle.std.specs.Prelude.{ℕ, List, [], ◌∷◌, ◌++◌, ◌==◌, if◌then◌else◌, codes}
use Rattle.std.specs.List.{flat_map}
use Rattle.csv.specs.Writing.{default_writer, row_text}
use Rattle.exif_columns.specs.Texts.{separated}
use Rattle.exif_columns.specs.declared.rows.Separator.{Separator}
use Rattle.exif_columns.specs.declared.rows.Separator.TheVariants.{Comma, Tab}

-- a byte of a cell between tabs: a tab (9), an end of line (10, 13) and a backslash (92) as two
-- characters, any other byte as it is
abbrev pub escaped_byte : ℕ → List ℕ
escaped_byte byte =
    if byte == 9 then codes "\\t" else
    (if byte == 10 then codes "\\n" else
    (if byte == 13 then codes "\\r" else
    (if byte == 92 then codes "\\\\" else byte ∷ [])))

-- a cell between tabs
abbrev pub escaped_cell : List ℕ → List ℕ
escaped_cell cell = flat_map escaped_byte cell

-- what is before a cell: a tab, but for the first
abbrev pub gap_before : ℕ → List ℕ
gap_before i = if i == 0 then [] else 9 ∷ []

-- cells separated by tabs
abbrev pub tsv_line : List (List ℕ) → List ℕ
tsv_line cells = separated 9 escaped_cell cells ++ codes "\n"

-- cells separated by commas (RFC 4180, section 2, with a line feed at the end): as the kit's writer
-- of CSV defines them
abbrev pub csv_line : List (List ℕ) → List ℕ
csv_line cells = row_text default_writer cells

-- a line of cells
abbrev pub line_of : Separator → List (List ℕ) → List ℕ
line_of Comma cells = csv_line cells
line_of Tab cells = tsv_line cells
