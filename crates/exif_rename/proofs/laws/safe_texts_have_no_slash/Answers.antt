use Rattle.exif_rename.proofs.Slashes.{safe_no_slash}
use Rattle.exif_rename.proofs.laws.safe_texts_have_no_slash.Goals as goal

pub returns : goal.returns
returns c = safe_no_slash
