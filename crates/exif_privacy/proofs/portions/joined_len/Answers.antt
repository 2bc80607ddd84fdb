use Rattle.exif_privacy.proofs.OtherSteps.{run_searched}
use Rattle.exif_privacy.proofs.portions.joined_len.Goals as goal

pub returns-in-len1-up-clause-searched : goal.returns-in-len1-up-clause-searched
returns-in-len1-up-clause-searched c =
    run_searched c.args.file.now _ c.args.parts.now c.run_len.result c.run_len.ensures.value
