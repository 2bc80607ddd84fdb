use Rattle.std.proofs.Common.{◌++◌, ◌∷◌, ◌∙◌, [], ap, refl, sym}
use Rattle.exif_catalog.specs.Totals.{counted_if, no_totals}
use Rattle.exif_catalog.proofs.Counting.{counted_more}
use Rattle.exif_catalog.proofs.updating.take_each.Goals as goal

pub files-init : goal.files-init
files-init g c = (([], refl), refl)

pub files-preserved : goal.files-preserved
files-preserved g c = (
  (
    c.files.invariant.0.0 ++ c.in_ok-take.field-0 ∷ [],
    c.counted_if-totals.ensures ∙ ap (λ t. counted_if t c.in_ok-take.field-0) c.files.invariant.0.1
        ∙ sym (counted_more no_totals c.files.invariant.0.0 c.in_ok-take.field-0),
  ),
  c.take.ensures.same ∙ c.next.ensures.same ∙ c.files.invariant.1,
)
