use Rattle.std.proofs.Common.{◌≡◌, ◌∙◌, []}
use Rattle.exif_values.proofs.PathSteps.{chosen_items, nothing_left}
use Rattle.exif_values.proofs.paths.properties_at.Goals as goal

pub returns : goal.returns
returns c =
    let none : c.from_path-from.result.now ≡ [] = nothing_left _ c.is_empty.result c.is_empty.ensures c.if-not-is_empty.false in
    chosen_items c.args.path.now c.as_slice.result.now c.args.properties.now c.from_path-from.result.now c.from_path-items.result.now c.in_ok-len.len none c.from_path-from.ensures
    (c.as_slice.ensures.value ∙ c.in_ok-first.ensures) c.from_path-items.ensures c.in_ok-len.ensures.value
