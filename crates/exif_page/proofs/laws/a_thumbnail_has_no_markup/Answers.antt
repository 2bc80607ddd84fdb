use Rattle.exif_page.proofs.Symbols.{plain_base64}
use Rattle.exif_page.proofs.laws.a_thumbnail_has_no_markup.Goals as goal

pub returns : goal.returns
returns c = plain_base64
