use Rattle.std.proofs.Common.{rules}
use Rattle.std.proofs.lemmas.List.Sorted.{IsNonDecreasingBy-from_sort_by_key}
use Rattle.exif_thumbnails.specs.declared.place.Place.{Place}
use Rattle.exif_thumbnails.proofs.previews.preview_places.Goals as goal

pub returns-clause-sorted : goal.returns-clause-sorted
returns-clause-sorted c =
    IsNonDecreasingBy-from_sort_by_key (λ (p : Place). p.len) _ c.in_ok-sort_by_key.ensures.sorted
    (λ a r q k. search rules)
