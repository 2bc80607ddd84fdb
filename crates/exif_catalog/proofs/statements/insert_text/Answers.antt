use Rattle.std.proofs.Common.{rules}
use Rattle.std.specs.Fmt.{digits}
use Rattle.exif_catalog.proofs.statements.insert_text.Goals as goal

pub returns : goal.returns
unfolding digits
returns c = search rules
