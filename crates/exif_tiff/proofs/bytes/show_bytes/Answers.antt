use Rattle.std.proofs.Common.{rules}
use Rattle.exif_tiff.proofs.bytes.show_bytes.Goals as goal

pub returns : goal.returns
returns c i = let fits = c.type_inv.bytes i in search rules
