use Rattle.std.proofs.Common.{◌≡◌, ◌<◌, length, cond, true, false, ap, sym, ◌∙◌, arith, rules}
use Rattle.std.proofs.lemmas.Bool.Decides.{nat_tests}
use Rattle.exif_isobmff.specs.Boxes.{whole_part}
use Rattle.exif_isobmff.specs.Extents.{behind_last}
use Rattle.exif_isobmff.specs.Kinds.{same_kind}
use Rattle.exif_isobmff.proofs.SplitterBoxes.{box_shorter}
use Rattle.exif_isobmff.proofs.BehindLast.{last_went_on}
use Rattle.exif_isobmff.proofs.ranges.behind_last.Goals as goal

pub loop-rest-smaller-then-is_same : goal.loop-rest-smaller-then-is_same
loop-rest-smaller-then-is_same c = box_shorter c.loop-rest.rest (whole_part c.in-Ok.kind c.in-Ok._body) c.child_box.new.self (search rules)

pub loop-rest-preserved-then-is_same : goal.loop-rest-preserved-then-is_same
loop-rest-preserved-then-is_same c =
    let some : 0 < length c.loop-rest.rest = grind (arith, nat_tests) in
    let on = last_went_on c.args.wanted c.loop-rest.found.now c.loop-rest.rest c.child_box.new.self (whole_part c.in-Ok.kind c.in-Ok._body) some (search rules) in
    let same : same_kind c.args.wanted c.in-Ok.kind ≡ true = sym c.is_same.ensures ∙ c.if-is_same.true in
    rw c.rest-found.ensures
    (sym (on ∙ ap (λ t. behind_last c.args.wanted (cond t c.child_box.new.self c.loop-rest.found.now) c.child_box.new.self) same) ∙ c.loop-rest.invariant)

pub loop-rest-smaller : goal.loop-rest-smaller
loop-rest-smaller c = box_shorter c.loop-rest.rest (whole_part c.in-Ok.kind c.in-Ok._body) c.child_box.new.self (search rules)

pub loop-rest-preserved : goal.loop-rest-preserved
loop-rest-preserved c =
    let some : 0 < length c.loop-rest.rest = grind (arith, nat_tests) in
    let on = last_went_on c.args.wanted c.loop-rest.found.now c.loop-rest.rest c.child_box.new.self (whole_part c.in-Ok.kind c.in-Ok._body) some (search rules) in
    let other : same_kind c.args.wanted c.in-Ok.kind ≡ false = sym c.is_same.ensures ∙ c.if-is_same.false in
    sym (on ∙ ap (λ t. behind_last c.args.wanted (cond t c.child_box.new.self c.loop-rest.found.now) c.child_box.new.self) other) ∙ c.loop-rest.invariant
