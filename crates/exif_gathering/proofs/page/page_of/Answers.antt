use Rattle.std.proofs.Common.{codes, inl, refl}
use Rattle.exif_gathering.specs.Pages.{AddsPicture}
use Rattle.exif_gathering.proofs.PageLemmas.{pages_of, steps_of, value_of, whole_page, worst_of}
use Rattle.exif_gathering.proofs.page.page_of.Goals as goal

pub returns-clause-page : goal.returns-clause-page
returns-clause-page g c =
    let shown = value_of c.visit.result c.map_err.result c.in_ok-map_err.field-0 _ c.visit.ensures.shown c.map_err.ensures.variant c.in_ok-map_err.was in
    let added = pages_of shown.1.0 _ _ (steps_of _ AddsPicture shown.1.0 _ _ shown.1.2) in
    (added.0, whole_page (codes "Pictures") _ _ added.0 _ c.in_ok-head_html.ensures c.new.ensures.items refl added.1 c.in_ok-whole.ensures)

pub returns-clause-worst : goal.returns-clause-worst
returns-clause-worst g c =
    let shown = value_of c.visit.result c.map_err.result c.in_ok-map_err.field-0 _ c.visit.ensures.shown c.map_err.ensures.variant c.in_ok-map_err.was in
    worst_of shown.1.0 _ _ (steps_of _ AddsPicture shown.1.0 _ _ shown.1.2) (inl refl)
