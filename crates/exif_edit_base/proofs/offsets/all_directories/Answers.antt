use Rattle.std.proofs.Common.{◌≡◌, ◌<◌, arith, ap, length, sym, ◌∙◌, ◌-◌}
use Rattle.std.specs.Prelude.{slice_index}
use Rattle.std.proofs.lemmas.Grind.{get_or_default_zero}
use Rattle.exif_base.specs.Orders.{number_of}
use Rattle.exif_edit_base.specs.GpsOffsets.{all_directories, children_from}
use Rattle.exif_edit_base.proofs.OffsetSteps.{children_end, children_on, children_stop}
use Rattle.exif_edit_base.proofs.offsets.all_directories.Goals as goal

pub loop-i-init : goal.loop-i-init
unfolding all_directories
loop-i-init c =
    ap (λ xs. children_from 1000 (number_of c.args.order) c.args.bytes.now 0 xs)
    c.in_ok-found.ensures

pub returns-then-len-i : goal.returns-then-len-i
returns-then-len-i c =
    sym (children_stop (1000 - c.loop-i.i) (number_of c.args.order) c.args.bytes.now c.loop-i.i
    c.loop-i.found.items (omega arith))
    ∙ c.loop-i.invariant

pub loop-i-preserved : goal.loop-i-preserved
loop-i-preserved c =
    let l : c.loop-i.i < length c.loop-i.found.items = omega arith in
    let e : c.index-offset.result.now ≡ slice_index c.loop-i.found.items c.loop-i.i =
    c.index-offset.ensures
    ∙ get_or_default_zero c.loop-i.found.items c.loop-i.i c.index-offset.result.now l in
    children_on 1000 c.loop-i.i (number_of c.args.order) c.args.bytes.now c.loop-i.found.items
    c.note_children.new.found.items _ c.loop-i-test.true l
    (rw e at c.in_ok-note_children.ensures) c.loop-i.invariant

pub returns : goal.returns
returns c =
    children_end 1000 c.loop-i.i (number_of c.args.order) c.args.bytes.now c.loop-i.found.items _
    c.loop-i-test.false c.loop-i.invariant
