use Rattle.exif_privacy.proofs.OtherSteps.{of_take}
use Rattle.exif_privacy.proofs.erase.erase_first.Goals as goal

pub returns-in_err-erase_joined-clause-others : goal.returns-in_err-erase_joined-clause-others
returns-in_err-erase_joined-clause-others c =
    of_take c.joined_len-joined.result c.args.parts.now c.args.file.now c.erase_joined.new.file c.erase_joined.ensures.others

pub returns-clause-others : goal.returns-clause-others
returns-clause-others c =
    of_take c.joined_len-joined.result c.args.parts.now c.args.file.now c.erase_joined.new.file c.erase_joined.ensures.others
