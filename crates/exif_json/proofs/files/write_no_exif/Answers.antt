use Rattle.exif_json.specs.Files.{file_members, no_exif_members}
use Rattle.exif_json.proofs.Prints.{prints_of, prints_same, prints_then, tokens_of_object, writes_then}
use Rattle.exif_json.proofs.files.write_no_exif.Goals as goal

pub returns : goal.returns
returns c =
    prints_same (tokens_of_object (file_members c.args.path.now c.args.format) no_exif_members)
    (writes_then c.in_ok-begin_object.ensures
    (prints_then c.in_ok-write_file.ensures (prints_then c.in_ok-write_nothing.ensures (prints_of c.end_object.ensures))))
