use Rattle.std.proofs.Common.{◌≡◌, ◌<◌, length, true, false, sym, ◌∙◌, arith, rules}
use Rattle.std.proofs.lemmas.Bool.Decides.{nat_tests}
use Rattle.std.proofs.lemmas.Grind.{common_steps}
use Rattle.exif_isobmff.specs.Boxes.{sizes_itself, whole_part}
use Rattle.exif_isobmff.proofs.SplitterBoxes.{box_shorter}
use Rattle.exif_grow.proofs.ClosedBoxes.{closed_done, closed_on, cut_cut, open_cut}
use Rattle.exif_grow.proofs.closed.are_closed.Goals as goal

pub returns-then-not-sizes_itself : goal.returns-then-not-sizes_itself
returns-then-not-sizes_itself c =
    let some : 0 < length c.loop-rest.rest = grind (arith, nat_tests) in
    let s : sizes_itself c.loop-rest.rest ≡ false = grind (arith, common_steps) in
    sym (open_cut c.loop-rest.rest some s) ∙ c.loop-rest.invariant

pub returns-in_default : goal.returns-in_default
returns-in_default c =
    let some : 0 < length c.loop-rest.rest = grind (arith, nat_tests) in
    let s : sizes_itself c.loop-rest.rest ≡ true = grind (arith, common_steps) in
    sym (cut_cut c.in_default.field-0 c.loop-rest.rest some s c.in_default.ensures) ∙ c.loop-rest.invariant

pub loop-rest-smaller : goal.loop-rest-smaller
loop-rest-smaller c = box_shorter c.loop-rest.rest (whole_part c.in-Ok._kind c.in-Ok._body) c.child_box.new.self (search rules)

pub loop-rest-preserved : goal.loop-rest-preserved
loop-rest-preserved c =
    let some : 0 < length c.loop-rest.rest = grind (arith, nat_tests) in
    let s : sizes_itself c.loop-rest.rest ≡ true = grind (arith, common_steps) in
    sym (closed_on c.loop-rest.rest c.child_box.new.self (whole_part c.in-Ok._kind c.in-Ok._body) some s (search rules)) ∙ c.loop-rest.invariant

pub returns : goal.returns
returns c =
    let none : length c.loop-rest.rest ≡ 0 = grind (arith, nat_tests) in
    sym (closed_done c.loop-rest.rest none) ∙ c.loop-rest.invariant
