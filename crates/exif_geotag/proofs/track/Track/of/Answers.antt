use Rattle.std.proofs.Common.{rules}
use Rattle.std.proofs.lemmas.List.Sorted.{IsNonDecreasingBy-from_sort_by_key, answers_always}
use Rattle.exif_geotag.specs.declared.point.Point.{Point}
use Rattle.exif_geotag.proofs.SortSteps.{in_order_is}
use Rattle.exif_geotag.proofs.track.Track.of.Goals as goal

pub invariant_of-result : goal.invariant_of-result
invariant_of-result c =
    IsNonDecreasingBy-from_sort_by_key (λ (p : Point). p.time) _ c.in_ok-sort_by_key.ensures.sorted (λ a r q k. search rules)

pub returns-clause-points : goal.returns-clause-points
returns-clause-points c =
    in_order_is c.args.read.points.kept.items _
    (IsNonDecreasingBy-from_sort_by_key (λ (p : Point). p.time) _ c.in_ok-sort_by_key.ensures.sorted (λ a r q k. search rules))
    (c.sort_by_key.ensures.stable (λ (p : Point). p.time) (answers_always _ _ _ (λ f a r q k. search rules)))
