use Rattle.exif_base.proofs.BlockSteps.{at_hand_passed, passed_behind}
use Rattle.exif_base.proofs.blocks.BlocksSource.pass_others.Goals as goal

pub returns-clause-passed : goal.returns-clause-passed
returns-clause-passed g c =
    at_hand_passed c.args.self.now.block.now (g.R.Source.left c.args.self.now.source.now) c.args.self.now.at c.args.self.now.end c.others_at_hand-n.result c.args.stop
    c.others_at_hand-n.ensures.bound c.args.self.now.in_range.1 c.others_at_hand-n.ensures.others

pub returns-then-self-clause-passed : goal.returns-then-self-clause-passed
returns-then-self-clause-passed g c =
    let self = c.args.self.now in
    passed_behind self.block.now _ _ self.at self.end c.args.stop c.pass_others.result self.in_range.1 c.if-self.true c.pass_others.ensures.passed
