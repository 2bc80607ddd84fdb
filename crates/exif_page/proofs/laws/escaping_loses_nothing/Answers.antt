use Rattle.exif_page.proofs.Characters.{read_back}
use Rattle.exif_page.proofs.laws.escaping_loses_nothing.Goals as goal

pub returns : goal.returns
returns c = read_back
