use Rattle.std.proofs.Common.{sym, ◌∙◌}
use Rattle.std.proofs.lemmas.Result.{err_from_is_err_and}
use Rattle.exif_isobmff.specs.declared.kind.Kind.TheVariants.{ItemInfoEntry}
use Rattle.exif_isobmff.specs.Items.{exif_number}
use Rattle.exif_isobmff.specs.Boxes.{whole_part}
use Rattle.exif_isobmff.proofs.ItemsBoxes.{count_cut, count_failed, count_went_on, count_done}
use Rattle.exif_isobmff.proofs.items.exif_item_of.Goals as goal

pub returns-in_err-kind : goal.returns-in_err-kind
returns-in_err-kind c =
    let p = err_from_is_err_and c.from_residual.result c.from_residual.ensures.1 in
    rw (p.1, p.2, ← c.loop.invariant) (count_cut c.in_err-kind.field-0.0 ItemInfoEntry exif_number c.loop.last c.args.count c.loop.counter c.loop.rest c.loop-test.true c.in_err-kind.ensures)

pub returns-in_err-number_of : goal.returns-in_err-number_of
returns-in_err-number_of c =
    let p = err_from_is_err_and c.from_residual-in_err-number_of.result c.from_residual-in_err-number_of.ensures.1 in
    rw (p.1, p.2, ← c.loop.invariant) (count_failed c.in_err-number_of.field-0.0 ItemInfoEntry exif_number c.loop.last c.args.count c.loop.counter c.loop.rest (whole_part c.in_ok-kind.kind c.in_ok-kind.body) c.child_box.new.self c.loop-test.true c.in_ok-kind.ensures c.in_err-number_of.ensures)

pub loop-preserved : goal.loop-preserved
loop-preserved c =
    rw c.or-last.ensures (count_went_on ItemInfoEntry exif_number c.loop.last c.in_ok-number_of.field-0 c.args.count c.loop.counter c.loop.rest (whole_part c.in_ok-kind.kind c.in_ok-kind.body) c.child_box.new.self _ c.loop-test.true c.in_ok-kind.ensures c.in_ok-number_of.ensures c.loop.invariant)

pub returns : goal.returns
returns c = sym c.loop.invariant ∙ count_done ItemInfoEntry exif_number c.loop.last c.args.count c.loop.counter c.loop.rest c.loop-test.false
