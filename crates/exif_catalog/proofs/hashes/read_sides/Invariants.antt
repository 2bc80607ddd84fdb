use Rattle.std.proofs.Common.{◌≡◌, [], map}
use Rattle.std.specs.BTreeMap.{get_by_text}
use Rattle.std.specs.Prelude.{flat_map}
use Rattle.sqlite.specs.Held.{state}
use Rattle.sqlite.specs.State.{CommitsShowing, HasCleanDisk, Survives}
use Rattle.exif_catalog.specs.Reading.{gone_in, hashed_parts, new_in}
use Rattle.exif_catalog.specs.Statements.{hashed_at, read_hashes}
use Rattle.exif_catalog.proofs.ReadingRows.{HasReadSome}
use Rattle.exif_catalog.proofs.hashes.read_sides.Given as goal

-- the pictures of the rows so far
abbrev pub invariant-rows : goal.invariant-rows
invariant-rows g l =
    let old = state g.S.Store l.fn.database in
    let now = state g.S.Store l.answer.conn.now in
    (l.answer.conn.ghost_name ≡ l.initial.answer.conn.ghost_name)
    × Survives old now (CommitsShowing read_hashes [] old)
    × (HasCleanDisk now → HasReadSome g.S.Store read_hashes
    (hashed_at (get_by_text l.fn.rows) l.fn.roots) l.fn.database l.answer.conn.now
    (λ found. (map hashed_parts l.sides.gone.items ≡ flat_map gone_in found)
    × (map hashed_parts l.sides.fresh.items ≡ flat_map new_in found)))
