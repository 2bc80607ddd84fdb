use Rattle.std.proofs.Common.{◌≡◌, []}
use Rattle.sqlite.specs.Held.{state}
use Rattle.sqlite.specs.State.{CommitsShowing, HasCleanDisk, Survives}
use Rattle.exif_catalog_file.specs.Schema.{pictures_text, shown_columns}
use Rattle.exif_catalog_file.specs.Shown.{HandsPicture, ShowsEach}
use Rattle.exif_catalog_file.proofs.Streaming.{HasHanded}
use Rattle.exif_catalog_file.proofs.visiting.visit_rows.Given as goal

-- the pictures so far were shown
abbrev pub invariant-rows : goal.invariant-rows
invariant-rows g l =
    let old = state g.S.Store l.fn.database in
    let now = state g.S.Store l.answer.conn.now in
    (l.answer.conn.ghost_name ≡ l.initial.answer.conn.ghost_name)
    × Survives old now (CommitsShowing (pictures_text shown_columns) [] old)
    × (HasCleanDisk now → HasHanded g.S.Store (HandsPicture g.V.Visitor.visits)
    (pictures_text shown_columns) l.fn.database l.fn.visitor l.answer.conn.now l.visitor l.count)
    × ShowsEach g.V.Visitor.visits l.fn.visitor l.count l.visitor
