use Rattle.exif_privacy.specs.Files.{parts_of}
use Rattle.exif_privacy.proofs.OtherSteps.{all_stay_in}
use Rattle.exif_privacy.proofs.erase.erase_all.Goals as goal

pub returns-in_err-parts-clause-others : goal.returns-in_err-parts-clause-others
returns-in_err-parts-clause-others c = all_stay_in (parts_of c.args.file.now) c.args.file.now
