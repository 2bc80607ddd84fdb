use Rattle.std.proofs.Common.{◌≡◌, List, [], ℕ}
use Rattle.std.specs.BTreeMap.{get_by_text}
use Rattle.sqlite.specs.Held.{state}
use Rattle.sqlite.specs.State.{CommitsShowing, HasCleanDisk, Survives}
use Rattle.exif_catalog.specs.Reading.{known_by}
use Rattle.exif_catalog.specs.Statements.{entry_at, read_rows}
use Rattle.exif_catalog.proofs.ReadingRows.{HasReadSome}
use Rattle.exif_catalog.proofs.catalog.read_rows.Given as goal

-- what is known by the rows so far
abbrev pub invariant-rows : goal.invariant-rows
invariant-rows g l =
    let old = state g.S.Store l.fn.database in
    let now = state g.S.Store l.answer.conn.now in
    (l.answer.conn.ghost_name ≡ l.initial.answer.conn.ghost_name)
    × Survives old now (CommitsShowing read_rows [] old)
    × (HasCleanDisk now → HasReadSome g.S.Store read_rows (λ cells. entry_at cells l.needs_hash)
    l.fn.database l.answer.conn.now
    (λ entries. (path : List ℕ) → get_by_text l.rows path ≡ known_by entries path))
