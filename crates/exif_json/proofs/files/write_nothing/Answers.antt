use Rattle.exif_json.proofs.Prints.{prints_of, writes_then}
use Rattle.exif_json.proofs.files.write_nothing.Goals as goal

pub returns : goal.returns
returns c =
    writes_then c.in_ok-key.ensures (writes_then c.in_ok-begin_object.ensures (writes_then c.in_ok-end_object.ensures
    (writes_then c.in_ok-key-2.ensures (writes_then c.in_ok-begin_array.ensures (writes_then c.in_ok-end_array.ensures
    (writes_then c.in_ok-key-3.ensures (writes_then c.in_ok-begin_array-2.ensures (prints_of c.end_array-2.ensures))))))))
