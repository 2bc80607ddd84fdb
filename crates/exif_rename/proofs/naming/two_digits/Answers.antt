use Rattle.exif_rename.proofs.Named.{zero_padded}
use Rattle.std.proofs.Common.{rules}
use Rattle.exif_rename.proofs.naming.two_digits.Goals as goal

pub returns : goal.returns
returns c = search (rules, zero_padded)
