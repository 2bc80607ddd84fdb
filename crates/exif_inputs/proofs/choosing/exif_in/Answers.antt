use Rattle.exif_inputs.proofs.ChoosingLemmas.{by_failure, by_read}
use Rattle.exif_inputs.specs.Uses.{held}
use Rattle.exif_inputs.proofs.choosing.exif_in.Goals as goal

pub returns-in-Ok : goal.returns-in-Ok
returns-in-Ok c = by_read (held c.args.input) c.in-Ok.picture.answer c.exif_read.result c.in-Ok.ensures.reads c.exif_read.ensures

pub returns-in-Err : goal.returns-in-Err
returns-in-Err c = by_failure (held c.args.input) c.in-Err.error c.in-Err.ensures.interrupted
