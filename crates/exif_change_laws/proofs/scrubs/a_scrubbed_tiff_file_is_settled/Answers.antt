use Rattle.exif_change_laws.proofs.TiffSettled.{tiff_again, tiff_tags}
use Rattle.exif_change_laws.proofs.scrubs.a_scrubbed_tiff_file_is_settled.Goals as goal

pub returns-clause-tags : goal.returns-clause-tags
returns-clause-tags c = λ s. tiff_tags s.removed s.file s.change s.takes s.of_format s.made

pub returns-clause-again : goal.returns-clause-again
returns-clause-again c = λ s. tiff_again s.removed s.file s.change s.takes s.of_format s.made
