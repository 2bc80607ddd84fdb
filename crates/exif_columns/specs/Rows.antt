-- Cells that are added to a record.
use Rattle.std.specs.Prelude.{◌≡◌, ℕ, List, [], ◌++◌, Result, OnOk}
use Rattle.csv.specs.Records.{Row, fields_of, partial_of}

-- the cells are behind those that were there, if none was begun
pub record Adds {A E : Type 0} (result : Result A E) (old new : Row) (cells : List (List ℕ))
    : Type 0 where
  pub fields : OnOk result (partial_of old ≡ [] → fields_of new ≡ fields_of old ++ cells)
  pub partial : OnOk result (partial_of new ≡ [])
