use Rattle.exif_json.specs.Fields.{field_json}
use Rattle.exif_json.proofs.Prints.{HasListed}
use Rattle.exif_json.proofs.fields.write_all_fields.Given as goal

-- the fields so far
abbrev pub invariant-loop-field : goal.invariant-loop-field
invariant-loop-field l =
    HasListed (field_json l.exif.fields) l.field-items l.field-index l.initial.printer.out l.printer.out
