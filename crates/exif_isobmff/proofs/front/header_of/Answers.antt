use Rattle.std.proofs.Common.{rules}
use Rattle.exif_isobmff.proofs.FrontBoxes.{headed_by}
use Rattle.exif_isobmff.proofs.front.header_of.Goals as goal

pub returns-clause-header : goal.returns-clause-header
returns-clause-header c = λ more. headed_by c.args.bytes.now c.header.new.self more c.in-Ok.header (search rules) (search rules) (search rules) (search rules)
