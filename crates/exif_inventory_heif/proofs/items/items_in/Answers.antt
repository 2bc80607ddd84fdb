use Rattle.std.proofs.Common.{ap, sym, ◌∙◌, rules}
use Rattle.std.proofs.lemmas.List.{take_rest}
use Rattle.std.specs.Option.{option_map}
use Rattle.exif_inventory_heif.specs.Items.{item_step, items_in}
use Rattle.exif_inventory_heif.proofs.LoopSteps.{steps_over}
use Rattle.exif_inventory_heif.proofs.ItemSteps.{item_on, item_fails}
use Rattle.exif_inventory_heif.proofs.items.items_in.Goals as goal

pub returns-in_default : goal.returns-in_default
unfolding items_in
returns-in_default c =
    ap (option_map (λ s. s.1)) (sym (item_fails c.args.count c.loop.counter c.loop.rest.now c.loop.found.items c.loop-test.true c.in_default.ensures.value) ∙ c.loop.invariant)

pub loop-preserved : goal.loop-preserved
loop-preserved c =
    sym (item_on c.args.count c.loop.counter c.loop.rest.now _ c.loop.found.items _ c.in-Some.entry c.loop-test.true c.in-Some.ensures.value (take_rest c.loop.rest.now c.in-Some.entry.len) (search rules)) ∙ c.loop.invariant

pub returns : goal.returns
unfolding items_in
returns c =
    ap (option_map (λ s. s.1)) (sym (steps_over item_step c.args.count c.loop.counter (c.loop.rest.now, c.loop.found.items) c.loop-test.false) ∙ c.loop.invariant)
