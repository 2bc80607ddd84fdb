use Rattle.exif_segments.specs.Removing.{payload_of}
use Rattle.exif_rewrite.proofs.JpegSteps.{gives_named}
use Rattle.exif_rewrite.proofs.jpeg.read_rewritten.Goals as goal

pub returns-clause-named : goal.returns-clause-named
returns-clause-named g c =
    gives_named c.rewrite_jpeg.result c.args.remove (payload_of c.args.put) c.deref.result.now c.rewrite_jpeg.ensures.gives
