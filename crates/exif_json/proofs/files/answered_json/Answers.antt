use Rattle.std.proofs.Common.{option_map}
use Rattle.exif_json.specs.Files.{chosen_answer}
use Rattle.exif_json.proofs.Partial.{partial_json}
use Rattle.exif_json.proofs.files.answered_json.Goals as goal

pub returns-in-Err-PartialResult-clause-json : goal.returns-in-Err-PartialResult-clause-json
returns-in-Err-PartialResult-clause-json c =
    let into = c.into_inner-exif.ensures in
    let printed = c.chosen_json-in-Err-PartialResult.ensures in
    rw (c.in-Err-PartialResult.is, c.in-Err-PartialResult.field-0-is)
    (partial_json (chosen_answer (option_map (λ t. t.now) c.args.tags) c.args.path.now c.args.format) (λ text. text.items) c.chosen_json-in-Err-PartialResult.result c.args.path.now c.args.format c.in-Err-PartialResult.partial
    c.into_inner-exif.result.0 c.deref.result.now into.exif (rw c.deref.ensures.value into.faults) printed.text printed.reads_back)
