use Rattle.exif_json.proofs.Faults.{shown_text}
use Rattle.exif_json.proofs.files.write_fault.Goals as goal

pub returns : goal.returns
returns c = c.shown.ensures.prints _ (shown_text c.args.fault.now c.requires)
