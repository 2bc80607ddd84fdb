-- What is written with commas is read back.
use Rattle.std.proofs.Common.{◌≡◌, ℕ, List, [], ◌∷◌, ◌++◌, Option, Some, None, sym, ap, ◌∙◌}
use Rattle.csv.proofs.RoundTrip.{read-write}
use Rattle.csv.specs.Machine.{Read, next_record}
use Rattle.csv.specs.Reading.{default_config}
use Rattle.csv.specs.declared.parser.State.TheVariants as st
use Rattle.exif_columns.specs.Lines.{csv_line}

-- a line and what is behind it
pub read : (cell : List ℕ) (cells : List (List ℕ)) (rest : List ℕ)
    → next_record default_config st.StartRecord [] [] (csv_line (cell ∷ cells) ++ rest) ≡ Some (cell ∷ cells, st.StartRecord, rest)
read cell cells rest = read-write (cell ∷ cells) rest

-- the cells of what was read
abbrev cells_of : Option Read → List (List ℕ)
cells_of None = []
cells_of (Some r) = r.0

-- lines that are the same have the same cells
pub differ : (a : List ℕ) (others : List (List ℕ)) (b : List ℕ) (more : List (List ℕ))
    → csv_line (a ∷ others) ≡ csv_line (b ∷ more) → (let xs : List (List ℕ) = a ∷ others in xs ≡ b ∷ more)
differ a others b more same =
    let first = ap cells_of (read a others []) in
    let second = ap cells_of (read b more []) in
    sym first ∙ (ap (λ line. cells_of (next_record default_config st.StartRecord [] [] (line ++ []))) same ∙ second)
