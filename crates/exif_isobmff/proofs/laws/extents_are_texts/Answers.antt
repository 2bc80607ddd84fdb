use Rattle.exif_isobmff.proofs.LawsExtents.{text_is_read, is_a_text}
use Rattle.exif_isobmff.proofs.laws.extents_are_texts.Goals as goal

pub returns-clause-read : goal.returns-clause-read
returns-clause-read c = text_is_read

pub returns-clause-only : goal.returns-clause-only
returns-clause-only c = is_a_text
