use Rattle.std.proofs.Common.{ap, arith, rules}
use Rattle.exif_base.proofs.SeekableSteps.{passed_ahead}
use Rattle.exif_base.proofs.seekable.CursorReadSeek.pass_in_memory.Goals as goal

pub returns-clause-passed : goal.returns-clause-passed
returns-clause-passed g c =
    let self = c.args.self.now in
    passed_ahead (g.T.AsBytes.bytes self.inner) _ c.as_byte_slice-all.result.now self.pos _ c.min-start.result c.others_between-n.result c.args.stop
    (search rules) (search rules) (omega arith) (ap g.T.AsBytes.bytes c.set_position.ensures.inner) (search rules) c.others_between-n.ensures.others
