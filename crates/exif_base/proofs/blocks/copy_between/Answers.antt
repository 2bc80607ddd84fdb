use Rattle.std.proofs.Common.{rules}
use Rattle.exif_base.proofs.BlockSteps.{at_hand_copied}
use Rattle.exif_base.proofs.blocks.copy_between.Goals as goal

pub returns-clause-copied : goal.returns-clause-copied
returns-clause-copied c =
    at_hand_copied c.args.block.now c.copy_front.new.to c.args.to.now c.args.at c.args.end c.copy_front.result c.requires.start c.requires.end (search rules) c.copy_front.ensures.copied
