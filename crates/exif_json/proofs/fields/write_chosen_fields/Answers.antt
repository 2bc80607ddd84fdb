use Rattle.std.proofs.Common.{ap, filter, length, map, ◌∙◌, arith}
use Rattle.json.specs.Tree.{json_tokens}
use Rattle.exif_json.specs.Fields.{field_json, has_one_of}
use Rattle.exif_json.specs.Trees.{array}
use Rattle.exif_json.proofs.Chosen.{chosen_listed, chosen_more, chosen_none}
use Rattle.exif_json.proofs.Prints.{listed_all, prints_same}
use Rattle.exif_json.proofs.fields.write_chosen_fields.Goals as goal

pub loop-field-init : goal.loop-field-init
loop-field-init c = chosen_none _ _ _ _

pub loop-field-preserved : goal.loop-field-preserved
loop-field-preserved c =
    let said = c.in_ok-write_if_chosen.ensures in
    chosen_more _ _ _ _ _ _ _ _ _ c.loop-field-test.true c.field-item.is c.loop-field.invariant said.written said.before

pub returns : goal.returns
returns c =
    let json = field_json c.args.exif.now.fields in
    let those = filter (has_one_of c.args.tags.now) c.fields_left-field-items.result.now in
    prints_same (ap (λ fields. json_tokens (array (map json (filter (has_one_of c.args.tags.now) fields)))) (c.fields_left-field-items.ensures ∙ c.fields.ensures.fields))
    (listed_all c.end_array.result json those (length those) c.args.printer.now.out c.begin_array.new.self c.loop-field.printer.out c.end_array.new.self c.in_ok-begin_array.ensures.ok
    c.in_ok-begin_array.ensures.room.0 (omega arith) (chosen_listed _ _ _ _ _ _ c.loop-field-test.false c.loop-field.invariant) c.end_array.ensures.ok c.end_array.ensures.room.0)
