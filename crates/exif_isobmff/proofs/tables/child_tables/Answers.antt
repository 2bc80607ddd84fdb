use Rattle.std.proofs.Common.{sym, ◌∙◌, ◌<◌, ◌≡◌, length, arith}
use Rattle.std.proofs.lemmas.Result.{err_from_is_err_and}
use Rattle.std.proofs.lemmas.Bool.Decides.{nat_tests}
use Rattle.exif_isobmff.specs.Boxes.{whole_part}
use Rattle.exif_isobmff.specs.TablesView.{tables_view}
use Rattle.exif_isobmff.proofs.SplitterBoxes.{box_shorter}
use Rattle.exif_isobmff.proofs.TablesChildren.{child_cut, child_failed, child_went_on, children_done}
use Rattle.exif_isobmff.proofs.tables.child_tables.Goals as goal

pub returns-in_err-kind : goal.returns-in_err-kind
returns-in_err-kind c =
    let p = err_from_is_err_and c.from_residual.result c.from_residual.ensures.1 in
    let some : 0 < length c.loop-boxes.boxes = grind (arith, nat_tests) in
    rw (p.1, p.2, ← c.loop-boxes.invariant) (child_cut c.in_err-kind.field-0.0 (tables_view c.loop-boxes.tables) c.loop-boxes.boxes some c.in_err-kind.ensures)

pub returns-in_err-tables : goal.returns-in_err-tables
returns-in_err-tables c =
    let p = err_from_is_err_and c.from_residual-in_err-tables.result c.from_residual-in_err-tables.ensures.1 in
    let some : 0 < length c.loop-boxes.boxes = grind (arith, nat_tests) in
    rw (p.1, p.2, ← c.loop-boxes.invariant) (child_failed c.in_err-tables.field-0.0 (tables_view c.loop-boxes.tables) c.in_ok-kind.kind c.in_ok-kind.body c.loop-boxes.boxes c.child_box.new.self some c.in_ok-kind.ensures c.in_err-tables.ensures)

pub loop-boxes-smaller : goal.loop-boxes-smaller
loop-boxes-smaller c = box_shorter c.loop-boxes.boxes (whole_part c.in_ok-kind.kind c.in_ok-kind.body) c.child_box.new.self c.in_ok-kind.ensures

pub loop-boxes-preserved : goal.loop-boxes-preserved
loop-boxes-preserved c =
    let some : 0 < length c.loop-boxes.boxes = grind (arith, nat_tests) in
    child_went_on (tables_view c.loop-boxes.tables) (tables_view c.in_ok-tables.tables) c.in_ok-kind.kind c.in_ok-kind.body c.loop-boxes.boxes c.child_box.new.self _ some c.in_ok-kind.ensures c.in_ok-tables.ensures c.loop-boxes.invariant

pub returns : goal.returns
returns c =
    let none : length c.loop-boxes.boxes ≡ 0 = grind (arith, nat_tests) in
    sym c.loop-boxes.invariant ∙ children_done (tables_view c.loop-boxes.tables) c.loop-boxes.boxes none
