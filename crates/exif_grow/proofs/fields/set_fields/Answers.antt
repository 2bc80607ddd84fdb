use Rattle.std.proofs.Common.{◌≡◌, [], drop, sym, ap, ◌∙◌}
use Rattle.std.proofs.Math.ListN.{drop_of_length-le}
use Rattle.exif_grow.specs.Fields.{fields_grown}
use Rattle.exif_grow.proofs.FieldSound.{are_set}
use Rattle.exif_grow.proofs.fields.set_fields.Goals as goal

pub returns-clause-set : goal.returns-clause-set
returns-clause-set c =
    let fields = c.args.fields.now in
    let data' = c.loop-field.data.items in
    let none : drop c.loop-field.field-index fields ≡ [] =
    drop_of_length-le fields c.loop-field-test.false in
    are_set fields c.args.bytes.now data'
    (sym c.loop-field.invariant ∙ ap (λ gs. fields_grown gs data') none)
