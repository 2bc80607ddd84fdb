use Rattle.exif_base.specs.Blocks.{blocks_budget}
use Rattle.exif_base.proofs.Feeding.{keeps_cut}
use Rattle.exif_base.proofs.blocks.BlocksFeed.fill.Goals as goal

pub returns-clause-bytes : goal.returns-clause-bytes
returns-clause-bytes g c =
    rw c.fill_at_hand.ensures.budget (keeps_cut (blocks_budget c.args.self.now) _ _ c.fill_at_hand.ensures.bytes)
