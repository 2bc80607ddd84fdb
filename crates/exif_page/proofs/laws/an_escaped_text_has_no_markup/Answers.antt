use Rattle.exif_page.proofs.Characters.{plain_text}
use Rattle.exif_page.proofs.laws.an_escaped_text_has_no_markup.Goals as goal

pub returns : goal.returns
returns c = plain_text
