use Rattle.exif_json.proofs.Prints.{prints_then, writes_then}
use Rattle.exif_json.proofs.files.write_file.Goals as goal

pub returns : goal.returns
returns c = writes_then c.in_ok-key.ensures (prints_then c.in_ok-write_text.ensures c.write_format.ensures)
