use Rattle.exif_files.proofs.Runs.{if_ok}
use Rattle.exif_files.proofs.temporary.hidden_name.Goals as goal

pub returns : goal.returns
returns c = if_ok _ _ c.hidden_in.result c.hidden_in.ensures (λ text e. (c.folder_of.result.now, c.args.attempt, e))
