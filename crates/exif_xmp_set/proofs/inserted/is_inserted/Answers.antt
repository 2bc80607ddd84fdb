use Rattle.std.proofs.Common.{inl, inr, sym, ◌∙◌, arith}
use Rattle.exif_xmp.specs.Properties.{property_view}
use Rattle.exif_xmp_set.specs.Added.{given_view}
use Rattle.exif_xmp_set.proofs.OneMore.{in_other, in_same, not_in}
use Rattle.exif_xmp_set.proofs.inserted.is_inserted.Goals.{then-old-at-via-then-old-at, then-old-at-via-else-old-at+then-new-at}
use Rattle.exif_xmp_set.proofs.inserted.is_inserted.Goals as goal

pub returns-then-old-at : goal.returns-then-old-at
returns-then-old-at c =
    let a = c.args in
    elim c.then-old-at.branch [
      | then-old-at-via-then-old-at w ↦ sym (not_in property_view a.at (given_view a.given) a.old.now a.new.now (inl (omega (arith, w.if-old-at.true))))
      | then-old-at-via-else-old-at+then-new-at w ↦ sym (not_in property_view a.at (given_view a.given) a.old.now a.new.now (inr (omega (arith, w.if-new-at.true))))
    ]

pub returns-then-all_same : goal.returns-then-all_same
returns-then-all_same c =
    let a = c.args in
    c.is_followed.ensures
    ∙ sym (in_same property_view a.at (given_view a.given) a.old.now a.new.now (omega (arith, c.if-old-at.false)) (omega (arith, c.if-new-at.false)) (sym c.all_same.ensures ∙ c.if-all_same.true))

pub returns-else-all_same : goal.returns-else-all_same
returns-else-all_same c =
    let a = c.args in
    sym (in_other property_view a.at (given_view a.given) a.old.now a.new.now (omega (arith, c.if-old-at.false)) (omega (arith, c.if-new-at.false)) (sym c.all_same.ensures ∙ c.if-all_same.false))
