use Rattle.exif_formats.proofs.ReadSteps.{exif_read}
use Rattle.exif_formats.proofs.jxl.bodies.exif_body.Goals as goal

pub returns-clause-found : goal.returns-clause-found
returns-clause-found g c =
    exif_read (g.R.Source.left c.args.source.now) (g.R.Source.left c.tiff_offset.new.source) (g.R.Source.left c.skip.new.source)
    (g.R.Source.left c.collect.new.source) c.in_ok-tiff.tiff.items c.args.len c.in_ok-offset.offset c.if-len-lt4.false c.if-len-offset.false
    c.in_ok-offset.ensures.taken c.in_ok-skip.ensures.taken c.in_ok-tiff.ensures.taken c.in_ok-tiff.ensures.len
