use Rattle.std.proofs.Common.{◌∙◌, ap, sym, arith}
use Rattle.std.proofs.lemmas.List.{drop_all}
use Rattle.exif_data_locations.proofs.ThumbnailSteps.{from_first, number_or}
use Rattle.exif_data_locations.proofs.thumbnail.number_named.Goals as goal

pub returns : goal.returns
returns c =
    let none = drop_all c.loop-field.field-index c.args.fields.now (omega (arith, c.loop-field-test.false)) in
    sym (ap (number_or c.loop-field.last c.args.number) none)
    ∙ (c.loop-field.invariant ∙ from_first c.args.number c.args.fields.now)
