use Rattle.std.proofs.Common.{◌≡◌, ℕ, List, codes, ◌++◌, [], ◌∷◌, refl, sym, ap, ◌∙◌, length, take, ◌≤◌, ◌+◌}
use Rattle.std.proofs.lemmas.List.{take_more, flat_map_more, take_all}
use Rattle.std.specs.List.{IsFirstAndRest}
use Rattle.std.proofs.Output.{has_written_append, has_written_of_eq}
use Rattle.std.specs.List.{flat_map}
use Rattle.exif_text.specs.Plain.{listed}
use Rattle.exif_text.proofs.plain.write_list.Goals as goal

-- the first item and those behind it
listed_is : {X : Type 0} (text : X → List ℕ) (items : List X) (first : X) (others : List X) (i : ℕ) → IsFirstAndRest items first others → length others ≤ i
    → text first ++ flat_map (λ x. codes ", " ++ text x) (take i others) ≡ listed text items
listed_is text items first others i e all = rw (e.0, take_all i others all) refl

pub loop-item-preserved : goal.loop-item-preserved
loop-item-preserved g c text same plain =
    let before = c.loop-item.invariant text same plain in
    let item = c.item-item.result in
    let next : take (c.loop-item.item-index + 1) c.in-Some.others.now ≡ take c.loop-item.item-index c.in-Some.others.now ++ item ∷ [] =
    take_more _ _ item c.loop-item-test.true ∙ ap (λ x. take c.loop-item.item-index c.in-Some.others.now ++ x ∷ []) (sym c.item-item.is) in
    let piece = rw same at c.in_ok-write-2.ensures.writes in
    has_written_of_eq _ _ _ _ _ (flat_map_more (λ x. codes ", " ++ text x) [] _ _ ∙ ap (flat_map (λ x. codes ", " ++ text x)) (sym next)) (has_written_append _ _ _ _ _ _ before (piece before.plain refl))

pub returns : goal.returns
returns g c text same plain ok =
    let first = (rw same at c.in_ok-write.ensures.writes) plain refl in
    let others = c.loop-item.invariant text same first.plain in
    has_written_of_eq _ _ _ _ _ (listed_is text c.args.items.now c.in-Some.first.now c.in-Some.others.now c.loop-item.item-index c.in-Some.ensures.cases c.loop-item-test.false) (has_written_append _ _ _ _ _ _ first others)
