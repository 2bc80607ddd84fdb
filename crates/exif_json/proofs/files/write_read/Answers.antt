use Rattle.std.proofs.Common.{option_map}
use Rattle.exif_json.specs.Files.{chosen_members, file_members}
use Rattle.exif_json.proofs.Prints.{prints_of, prints_same, prints_then, tokens_of_object, writes_then}
use Rattle.exif_json.proofs.files.write_read.Goals as goal

pub returns : goal.returns
returns c =
    prints_same (tokens_of_object (file_members c.args.path.now c.args.format) (chosen_members (option_map (λ t. t.now) c.args.tags) c.args.exif.now c.args.faults.now))
    (writes_then c.in_ok-begin_object.ensures
    (prints_then c.in_ok-write_file.ensures (prints_then c.in_ok-write_exif.ensures (prints_of c.end_object.ensures))))
