use Rattle.exif_base.specs.Blocks.{at_hand, blocks_budget}
use Rattle.exif_base.proofs.Feeding.{consumes_cut}
use Rattle.exif_base.proofs.BlockSteps.{at_hand_taken}
use Rattle.exif_base.proofs.blocks.BlocksFeed.pass.Goals as goal

pub returns-clause-bytes : goal.returns-clause-bytes
returns-clause-bytes g c =
    let self = c.args.self.now in
    consumes_cut (blocks_budget self) c.args.n (at_hand self) _ _ c.requires
    (at_hand_taken self.block.now (g.R.Source.left self.source.now) self.at self.end c.args.n)
