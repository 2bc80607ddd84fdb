use Rattle.std.proofs.Common.{◌∙◌, List, map, rules, subst}
use Rattle.std.specs.List.Sorted.{IsStableByKey}
use Rattle.std.specs.Ordering.{nat_cmp}
use Rattle.std.proofs.lemmas.List.Sorted.{IsNonDecreasingBy-from_sort_by_key, answers_always}
use Rattle.exif_rename.specs.Grouped.{entry_of}
use Rattle.exif_rename.specs.declared.together.Place.{Place}
use Rattle.exif_rename.proofs.Togethers.{both}
use Rattle.exif_rename.proofs.together.planned_order.Goals as goal

pub returns-clause-together : goal.returns-clause-together
returns-clause-together c =
    IsNonDecreasingBy-from_sort_by_key (λ (p : Place). p.leader) _ c.in_ok-sort_by_key.ensures.sorted
    (λ a r q k. search rules)

pub returns-clause-inside : goal.returns-clause-inside
returns-clause-inside c =
    let all = both (map entry_of c.args.entries.now) c.deref.result.now c.deref-2.result.now _ c.new-order.result.items c.add_places.new.order.items c.add_places-2.new.order.items
    c.new-order.ensures.items (c.deref.ensures.value ∙ c.in_ok-leaders.ensures) (c.deref-2.ensures.value ∙ c.in_ok-leaders.ensures)
    c.in_ok-add_places.ensures c.in_ok-add_places-2.ensures in
    subst (λ (ps : List Place). IsStableByKey (λ (p : Place). p.leader) nat_cmp ps c.sort_by_key.new.self.items) all
    (c.sort_by_key.ensures.stable (λ (p : Place). p.leader) (answers_always _ _ _ (λ f a r g k. search rules)))
