use Rattle.exif_rename.proofs.Named.{zero_padded}
use Rattle.std.proofs.Common.{rules}
use Rattle.exif_rename.proofs.naming.date_text.Goals as goal

pub returns-in-Year : goal.returns-in-Year
returns-in-Year c = search (rules, zero_padded)
