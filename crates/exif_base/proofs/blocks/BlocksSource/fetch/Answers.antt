use Rattle.std.proofs.Common.{length, sym}
use Rattle.exif_base.proofs.BlockSteps.{at_hand_given, at_hand_end}
use Rattle.exif_base.proofs.blocks.BlocksSource.fetch.Goals as goal

pub returns-clause-bytes : goal.returns-clause-bytes
returns-clause-bytes g c =
    let self = c.fill_at_hand.new.self in (
      at_hand_given _ (g.R.Source.left self.source.now) self.block.now c.copy_at_hand-n.new.to self.at self.end c.copy_at_hand-n.result
          c.in_ok-fill_at_hand.ensures.bytes c.copy_at_hand-n.ensures.copied,
      λ none room. at_hand_end (g.R.Source.left self.source.now) self.block.now self.at self.end c.copy_at_hand-n.result (length c.args.buf.now)
          self.in_range.0 self.in_range.1 c.in_ok-fill_at_hand.ensures.end c.copy_at_hand-n.ensures.count none (rw (sym c.copy_at_hand-n.ensures.len) room),
    )
