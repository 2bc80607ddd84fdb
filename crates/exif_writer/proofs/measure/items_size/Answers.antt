use Rattle.std.proofs.Common.{rules}
use Rattle.exif_writer.proofs.BlockSums.{count_low}
use Rattle.exif_writer.proofs.measure.items_size.Goals as goal

pub returns-in_err-ok : goal.returns-in_err-ok
returns-in_err-ok c = let low = count_low c.args.unit c.args.count c.requires in search rules
