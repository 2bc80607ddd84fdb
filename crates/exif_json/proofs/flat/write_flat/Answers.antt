use Rattle.std.proofs.Common.{option_map, ◌++◌}
use Rattle.exif_json.specs.Flat.{fact_members, picture_members}
use Rattle.exif_json.proofs.Prints.{object_of, parts_then, prints_of, prints_same, prints_then, writes_then}
use Rattle.exif_json.proofs.flat.write_flat.Goals as goal

pub returns : goal.returns
returns c =
    let facts = fact_members c.args.facts.now in
    let picture = picture_members (option_map (λ e. e.now.fields) c.args.exif) in
    prints_same (object_of (facts ++ picture))
    (writes_then c.in_ok-begin_object.ensures
    (prints_then (parts_then facts picture c.in_ok-write_facts.ensures c.in_ok-write_picture.ensures)
    (prints_of c.end_object.ensures)))
