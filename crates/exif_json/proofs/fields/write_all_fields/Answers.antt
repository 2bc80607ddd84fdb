use Rattle.std.proofs.Common.{ap, map, ◌∙◌}
use Rattle.json.specs.Tree.{json_tokens}
use Rattle.exif_json.specs.Fields.{field_json}
use Rattle.exif_json.specs.Trees.{array}
use Rattle.exif_json.proofs.Prints.{listed_all, prints_same}
use Rattle.exif_json.proofs.fields.write_all_fields.Goals as goal

pub returns : goal.returns
returns c =
    let json = field_json c.args.exif.now.fields in
    prints_same (ap (λ fields. json_tokens (array (map json fields))) (c.fields_left-field-items.ensures ∙ c.fields.ensures.fields))
    (listed_all c.end_array.result json c.fields_left-field-items.result.now c.loop-field.field-index c.args.printer.now.out c.begin_array.new.self c.loop-field.printer.out c.end_array.new.self c.in_ok-begin_array.ensures.ok
    c.in_ok-begin_array.ensures.room.0 c.loop-field-test.false c.loop-field.invariant c.end_array.ensures.ok c.end_array.ensures.room.0)
