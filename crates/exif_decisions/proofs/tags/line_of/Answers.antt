use Rattle.std.proofs.Common.{rules}
use Rattle.exif_decisions.specs.Listing.{tag_line}
use Rattle.exif_decisions.proofs.tags.line_of.Goals as goal

pub returns : goal.returns
unfolding tag_line
returns c = search (rules, c.laid_out.ensures, c.laid_out-2.ensures, c.format.ensures.ok)
