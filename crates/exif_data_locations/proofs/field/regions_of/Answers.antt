use Rattle.std.proofs.Common.{◌++◌, length, ap, append-nil, sym, ◌∙◌}
use Rattle.std.proofs.lemmas.Slice.Zip.{zip_end}
use Rattle.exif_base.specs.Orders.{number_of}
use Rattle.exif_data_locations.proofs.FieldSteps.{regions_over}
use Rattle.exif_data_locations.proofs.field.regions_of.Goals as goal

pub returns-clause-value : goal.returns-clause-value
returns-clause-value c =
    let fields = c.args.fields.now in
    let entries = c.args.entries.now in
    let e = zip_end fields entries c.loop-field.yielded c.into_iter-field-iterator.result c.loop-field.field-iterator c.next.new.self c.next.result (cc) (cc) c.loop-field.yielded_by c.in-None.is c.next.ensures.steps in
    sym (append-nil c.loop-field.regions.items)
    ∙ ap (λ xs. c.loop-field.regions.items ++ xs)
    (sym (regions_over (number_of c.args.order) c.args.bytes.now fields entries (length c.loop-field.yielded) e))
    ∙ c.loop-field.invariant.0
