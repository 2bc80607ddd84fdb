use Rattle.std.proofs.Common.{rules}
use Rattle.exif_formats.proofs.ReadSteps.{foreign_read}
use Rattle.exif_formats.proofs.jxl.file.begin.Goals as goal

pub returns-then-not-is_jxl-clause-refused : goal.returns-then-not-is_jxl-clause-refused
returns-then-not-is_jxl-clause-refused g c =
    foreign_read (g.R.Source.left c.args.source.now) (g.R.Source.left c.read_front.new.source) c.read_front.new.buf c.in_ok-n.n (search rules) c.if-n-lt12.false
    c.in_ok-n.ensures.taken (search rules) (search rules)
