use Rattle.std.proofs.Common.{◌≡◌, drop}
use Rattle.exif_grow.specs.Fields.{fields_grown}
use Rattle.exif_grow.proofs.fields.set_fields.Given as goal

abbrev pub invariant-loop-field : goal.invariant-loop-field
invariant-loop-field l =
    fields_grown (drop l.field-index l.fields) l.data.items
    ≡ fields_grown l.fn.fields l.fn.bytes
