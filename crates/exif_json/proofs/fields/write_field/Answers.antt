use Rattle.exif_json.specs.Fields.{contents_members, field_json, name_members}
use Rattle.exif_json.proofs.Prints.{prints_of, prints_same, prints_then, tokens_of_object, writes_then}
use Rattle.exif_json.proofs.fields.write_field.Goals as goal

pub returns : goal.returns
unfolding field_json
returns c =
    prints_same (tokens_of_object (name_members c.args.field.now) (contents_members c.args.exif.now.fields c.args.field.now))
    (writes_then c.in_ok-begin_object.ensures
    (prints_then c.in_ok-write_name.ensures (prints_then c.in_ok-write_contents.ensures (prints_of c.end_object.ensures))))
