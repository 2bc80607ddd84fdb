-- Columns that are named one after the other.
use Rattle.std.proofs.Common.{List, ◌++◌, Result, Ok, Err}
use Rattle.exif_columns.specs.Columns.{TheColumn, TheUnknown}

-- columns in front of others
abbrev pub onto : List TheColumn → Result (List TheColumn) TheUnknown → Result (List TheColumn) TheUnknown
onto front (Ok columns) = Ok (front ++ columns)
onto front (Err unknown) = Err unknown
