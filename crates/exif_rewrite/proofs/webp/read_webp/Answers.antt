use Rattle.exif_segments.specs.Removing.{payload_of}
use Rattle.exif_parts.specs.Webp.{webp_rewritten}
use Rattle.exif_rewrite.proofs.WebpSteps.{gives_named, gives_refused}
use Rattle.exif_rewrite.proofs.webp.read_webp.Goals as goal

pub returns-clause-refused : goal.returns-clause-refused
returns-clause-refused g c =
    gives_refused _ c.rewrite_webp.result (g.R.Source.left c.args.source.now) c.in_ok-file.file.items (webp_rewritten c.args.remove (payload_of c.args.put)) c.in_ok-file.ensures.taken
    (rw c.deref.ensures.value at c.rewrite_webp.ensures.gives)

pub returns-clause-named : goal.returns-clause-named
returns-clause-named g c =
    gives_named _ c.rewrite_webp.result c.args.remove (payload_of c.args.put) c.deref.result.now c.rewrite_webp.ensures.gives
