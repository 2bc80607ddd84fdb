use Rattle.std.proofs.Common.{rules}
use Rattle.exif_base.proofs.BlockSteps.{at_hand_fetched, fetched_behind}
use Rattle.exif_base.proofs.blocks.BlocksSource.take_at_hand.Goals as goal

pub returns-clause-bytes : goal.returns-clause-bytes
returns-clause-bytes g c =
    let self = c.args.self.now in
    at_hand_fetched self.block.now _ _ _ self.at self.end c.min-n.result self.in_range.1 (search rules) (search rules)

pub returns-then-self-clause-bytes : goal.returns-then-self-clause-bytes
returns-then-self-clause-bytes g c =
    let self = c.args.self.now in
    fetched_behind self.block.now _ _ _ _ self.at self.end c.take_at_hand.result self.in_range.1 c.if-self.true c.take_at_hand.ensures.bytes
