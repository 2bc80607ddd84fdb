use Rattle.exif_json.specs.Files.{refusal_json}
use Rattle.exif_json.proofs.Depths.{finished, refusal_shallow}
use Rattle.exif_json.proofs.Faults.{if_some, of_some}
use Rattle.exif_json.proofs.files.refusal_json.Goals as goal

pub returns-clause-reads_back : goal.returns-clause-reads_back
returns-clause-reads_back c =
    if_some (refusal_json c.args.path.now c.args.format c.args.error.now) _ (λ json is.
    finished _ _ _ json c.new-printer.ensures.before c.new-printer.ensures.tokens (of_some _ _ json is c.in_ok-write_refusal.ensures.prints) c.finish.ensures.text c.finish.ensures.tokens
    (refusal_shallow c.args.path.now c.args.format c.args.error.now json is))
