use Rattle.std.proofs.Common.{rules}
use borrow.Rule.Slice.PartMut.{post_of}
use Rattle.exif_formats.proofs.HeaderSteps.{header_taken}
use Rattle.exif_formats.proofs.headers.read_header.Goals as goal

pub returns-clause-taken : goal.returns-clause-taken
returns-clause-taken g c =
    let bound = c.in_ok-n.ensures.bound in
    let size = c.read_front.auto.buf in
    let left = c.fill.auto.buf in
    header_taken (g.R.Source.left c.args.source.now) (g.R.Source.left c.read_front.new.source) (g.R.Source.left c.fill.new.source) c.in_ok-n.n c.read_front.new.buf (post_of 0 8 c.args.buf.now) c.fill.new.buf
    (search rules) (search rules) (search rules) c.in_ok-n.ensures.taken c.in_ok-fill.ensures.taken
