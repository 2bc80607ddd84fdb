use Rattle.exif_check.specs.Json.{part_json}
use Rattle.exif_json.proofs.Prints.{listed_all}
use Rattle.exif_check.proofs.object.write_parts.Goals as goal

pub returns : goal.returns
returns c =
    listed_all c.end_array.result part_json c.args.parts.now c.loop-checked.checked-index c.args.printer.now.out c.begin_array.new.self c.loop-checked.printer.out c.end_array.new.self c.in_ok-begin_array.ensures.ok
    c.in_ok-begin_array.ensures.room.0 c.loop-checked-test.false c.loop-checked.invariant c.end_array.ensures.ok c.end_array.ensures.room.0
