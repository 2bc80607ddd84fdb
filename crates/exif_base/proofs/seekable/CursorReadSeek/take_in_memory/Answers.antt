use Rattle.std.proofs.Common.{ap, arith, rules}
use Rattle.exif_base.proofs.SeekableSteps.{fetched_ahead}
use Rattle.exif_base.proofs.seekable.CursorReadSeek.take_in_memory.Goals as goal

pub returns-clause-bytes : goal.returns-clause-bytes
returns-clause-bytes g c =
    let self = c.args.self.now in
    fetched_ahead (g.T.AsBytes.bytes self.inner) _ c.as_byte_slice-all.result.now c.args.list.now.items c.copy_in_pieces.new.buf.items self.pos _ c.min-start.result
    c.min-n.result (search rules) (search rules) (omega arith) (ap g.T.AsBytes.bytes c.set_position.ensures.inner) (search rules) (search rules)
