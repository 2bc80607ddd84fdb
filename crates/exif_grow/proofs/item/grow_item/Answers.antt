use Rattle.std.proofs.Common.{◌≡◌, All, length, Ok, true, false, sym, ap, subst, ◌∙◌, arith}
use Rattle.std.proofs.lemmas.Grind.{common_steps}
use Rattle.std.proofs.lemmas.Result.{err_from_is_err_and}
use Rattle.exif_edit_base.specs.Causes.{Makes, ◌>>=◌}
use Rattle.exif_edit_base.specs.Patches.{FitsIn}
use Rattle.exif_edit_base.proofs.CauseSteps.{refused_on}
use Rattle.exif_grow.specs.Growing.{added_of, grown}
use Rattle.exif_grow.proofs.GrowthSteps.{on_ok}
use Rattle.exif_grow.specs.ItemFields.{ItemFields, are_closed, fields_view, item_fields}
use Rattle.exif_grow.specs.Items.{item_growth, item_moved, one_range}
use Rattle.exif_grow.specs.ItemPromises.{IsItemMoved}
use Rattle.exif_grow.proofs.ItemSound.{growth_fits, growth_sound}
use Rattle.exif_grow.proofs.ItemSteps.{growth_open, growth_ranges, growth_unread, stopped}
use Rattle.exif_grow.proofs.item.grow_item.Goals as goal

pub returns-in_err-fields-clause-answer : goal.returns-in_err-fields-clause-answer
returns-in_err-fields-clause-answer c =
    let p = err_from_is_err_and c.from_residual.result c.from_residual.ensures.1 in
    rw p.1
    (stopped c.in_err-fields.field-0.0 p.0 (item_fields c.args.file.now)
    (item_growth c.args.file.now c.args.new.now) p.2 c.in_err-fields.ensures.gives
    c.in_err-fields.ensures.no_io (growth_unread c.args.file.now c.args.new.now))

pub returns-then-not-are_closed-clause-answer : goal.returns-then-not-are_closed-clause-answer
returns-then-not-are_closed-clause-answer c =
    let o : are_closed c.args.file.now ≡ false = grind (arith, common_steps) in
    growth_open c.args.file.now c.args.new.now (fields_view c.in_ok-fields.fields)
    c.in_ok-fields.ensures.gives o

pub returns-in_err-range-clause-answer : goal.returns-in_err-range-clause-answer
returns-in_err-range-clause-answer c =
    let f : ItemFields = fields_view c.in_ok-fields.fields in
    let o : are_closed c.args.file.now ≡ true = grind (arith, common_steps) in
    let p = err_from_is_err_and c.from_residual-in_err-range.result
    c.from_residual-in_err-range.ensures.1 in
    rw (p.1, p.2)
    (refused_on c.in_err-range.field-0.0 (one_range f.ranges)
    (item_growth c.args.file.now c.args.new.now) (rw c.as_slice.ensures.value at c.in_err-range.ensures.range)
    (λ r h. growth_ranges c.args.file.now c.args.new.now f c.in_ok-fields.ensures.gives o
    ∙ ap (λ x. x >>= item_moved c.args.file.now c.args.new.now f) h))

pub returns-clause-answer : goal.returns-clause-answer
returns-clause-answer c =
    let f : ItemFields = fields_view c.in_ok-fields.fields in
    let o : are_closed c.args.file.now ≡ true = grind (arith, common_steps) in
    let one : one_range f.ranges ≡ Ok c.in_ok-range.range = rw c.as_slice.ensures.value at c.in_ok-range.ensures.range in
    subst (Makes added_of c.item_moved.result)
    (sym (growth_ranges c.args.file.now c.args.new.now f c.in_ok-fields.ensures.gives o
    ∙ ap (λ x. x >>= item_moved c.args.file.now c.args.new.now f) one))
    c.item_moved.ensures

pub returns-clause-within : goal.returns-clause-within
returns-clause-within c =
    on_ok (λ g. All (FitsIn (length c.args.file.now)) g.patches.items) c.item_moved.result
    (item_growth c.args.file.now c.args.new.now) (returns-clause-answer c)
    (λ g h. growth_fits c.args.file.now c.args.new.now (added_of g) h)

pub returns-clause-moved : goal.returns-clause-moved
returns-clause-moved c =
    on_ok (λ g. IsItemMoved c.args.file.now c.args.new.now (grown (added_of g) c.args.file.now))
    c.item_moved.result (item_growth c.args.file.now c.args.new.now) (returns-clause-answer c)
    (λ g h. growth_sound c.args.file.now c.args.new.now (added_of g) h)
