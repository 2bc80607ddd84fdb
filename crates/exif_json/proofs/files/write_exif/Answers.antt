use Rattle.std.proofs.Common.{sym}
use Rattle.std.proofs.lemmas.List.{append-nil}
use Rattle.json.specs.Tree.{json_tokens}
use Rattle.exif_json.specs.Files.{faults_json}
use Rattle.exif_json.proofs.Prints.{prints_same, prints_then, writes_then}
use Rattle.exif_json.proofs.files.write_exif.Goals as goal

pub returns : goal.returns
returns c =
    prints_then (rw c.order_of.ensures at c.in_ok-text_member.ensures)
    (writes_then c.in_ok-key.ensures
    (prints_then c.in_ok-write_summary.ensures
    (writes_then c.in_ok-key-2.ensures
    (prints_then c.in_ok-write_fields.ensures
    (writes_then c.in_ok-key-3.ensures (prints_same (sym (append-nil (json_tokens (faults_json c.args.faults.now)))) c.write_faults.ensures))))))
