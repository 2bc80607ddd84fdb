use Rattle.std.proofs.Common.{◌≡◌, []}
use Rattle.sqlite.specs.Held.{state}
use Rattle.sqlite.specs.State.{CommitsShowing, HasCleanDisk, Survives}
use Rattle.exif_catalog_file.specs.Shown.{HandsLine}
use Rattle.exif_catalog_file.proofs.Streaming.{HasHanded}
use Rattle.exif_catalog_file.proofs.answers.answer_rows.Given as goal

-- the rows so far were handed on
abbrev pub invariant-rows : goal.invariant-rows
invariant-rows g l =
    let old = state g.S.Store l.fn.database in
    let now = state g.S.Store l.answer.conn.now in
    (l.answer.conn.ghost_name ≡ l.initial.answer.conn.ghost_name)
    × Survives old now (CommitsShowing l.statement.text [] old)
    × (l.line.items ≡ [])
    × (HasCleanDisk now → HasHanded g.S.Store (HandsLine g.L.Lines.takes) l.statement.text
    l.fn.database l.fn.lines l.answer.conn.now l.lines l.count)
