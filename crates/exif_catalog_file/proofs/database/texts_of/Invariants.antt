use Rattle.std.proofs.Common.{◌≡◌, ◌++◌, Ok, drop}
use Rattle.std.specs.Prelude.{map, string_bytes}
use Rattle.exif_catalog_file.specs.Statements.{and_then, texts_at}
use Rattle.exif_catalog_file.proofs.database.texts_of.Given as goal

-- the texts so far, and behind them those of the rows that are left, are those of all
abbrev pub invariant-loop-row : goal.invariant-loop-row
invariant-loop-row l = and_then (λ texts. Ok (map string_bytes l.texts.items ++ texts))
    (texts_at (drop l.row-index l.rows)) ≡ texts_at l.rows
