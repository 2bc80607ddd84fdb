use Rattle.std.proofs.Common.{[], ◌∷◌, codes}
use Rattle.json.specs.Json as J
use Rattle.exif_types.specs.Failures.{error_text}
use Rattle.exif_json.specs.Files.{file_members}
use Rattle.exif_json.proofs.Faults.{if_some}
use Rattle.exif_json.proofs.Prints.{prints_of, prints_same, prints_then, tokens_of_object, writes_then}
use Rattle.exif_json.proofs.files.write_error.Goals as goal

pub returns-clause-prints : goal.returns-clause-prints
returns-clause-prints c =
    if_some (error_text c.args.error.now) _ (λ said is.
    prints_same (tokens_of_object (file_members c.args.path.now c.args.format) ((codes "error", J.string said) ∷ []))
    (writes_then c.in_ok-begin_object.ensures
    (prints_then c.in_ok-write_file.ensures (prints_then (c.in_ok-shown_member.ensures.prints said is) (prints_of c.end_object.ensures)))))
