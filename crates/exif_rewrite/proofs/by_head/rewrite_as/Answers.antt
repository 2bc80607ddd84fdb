use Rattle.std.proofs.Common.{◌≡◌, Err, arith, inl, inr, refl, rules}
use Rattle.exif_containers.specs.Container.{unknown_format}
use Rattle.exif_segments.specs.Removing.{payload_of}
use Rattle.exif_rewrite.specs.RewrittenFile.{heif_stays, rewriting_as, tiff_stays}
use Rattle.exif_rewrite.specs.RewrittenJpeg.{jpeg_rewriting}
use Rattle.exif_parts.specs.Webp.{webp_rewritten}
use Rattle.exif_rewrite.specs.SentFiles.{IsSent, StopsFile}
use Rattle.exif_rewrite.proofs.FileSteps.{heif_refused, jpeg_as, jpeg_named, sent_as, stopped_as, tiff_refused, unknown_refused, webp_as, webp_named}
use Rattle.exif_rewrite.proofs.SendingFiles.{always_known, refused_unsent}
use Rattle.exif_rewrite.proofs.by_head.rewrite_as.Goals as goal

pub returns-in-Some-Jpeg-clause-sent : goal.returns-in-Some-Jpeg-clause-sent
returns-in-Some-Jpeg-clause-sent g c =
    let put = payload_of c.args.put in
    sent_as (IsSent (g.W.Sink.taken c.args.out.now) _) c.rewrite_jpeg.result (g.R.Source.left c.args.source.now) (jpeg_rewriting c.args.remove put) (rewriting_as c.args.format c.args.remove put)
    (jpeg_as c.args.format c.args.remove put (search rules)) c.rewrite_jpeg.ensures.sent

pub returns-in-Some-Jpeg-clause-stopped : goal.returns-in-Some-Jpeg-clause-stopped
returns-in-Some-Jpeg-clause-stopped g c =
    let put = payload_of c.args.put in
    stopped_as (λ e. StopsFile e (g.W.Sink.taken c.args.out.now) _) c.rewrite_jpeg.result (g.R.Source.left c.args.source.now) (jpeg_rewriting c.args.remove put) (rewriting_as c.args.format c.args.remove put)
    (jpeg_as c.args.format c.args.remove put (search rules)) c.rewrite_jpeg.ensures.stopped

pub returns-in-Some-Jpeg-clause-named : goal.returns-in-Some-Jpeg-clause-named
returns-in-Some-Jpeg-clause-named g c = jpeg_named c.rewrite_jpeg.result c.rewrite_jpeg.ensures.named

pub returns-in-Some-Jpeg-clause-memory : goal.returns-in-Some-Jpeg-clause-memory
returns-in-Some-Jpeg-clause-memory g c h = inl (search rules)

pub returns-in-Some-WebP-clause-sent : goal.returns-in-Some-WebP-clause-sent
returns-in-Some-WebP-clause-sent g c =
    let put = payload_of c.args.put in
    sent_as (IsSent (g.W.Sink.taken c.args.out.now) _) c.rewrite_webp.result (g.R.Source.left c.args.source.now) (webp_rewritten c.args.remove put) (rewriting_as c.args.format c.args.remove put)
    (webp_as c.args.format c.args.remove put (search rules)) c.rewrite_webp.ensures.sent

pub returns-in-Some-WebP-clause-stopped : goal.returns-in-Some-WebP-clause-stopped
returns-in-Some-WebP-clause-stopped g c =
    let put = payload_of c.args.put in
    stopped_as (λ e. StopsFile e (g.W.Sink.taken c.args.out.now) _) c.rewrite_webp.result (g.R.Source.left c.args.source.now) (webp_rewritten c.args.remove put) (rewriting_as c.args.format c.args.remove put)
    (webp_as c.args.format c.args.remove put (search rules)) c.rewrite_webp.ensures.stopped

pub returns-in-Some-WebP-clause-named : goal.returns-in-Some-WebP-clause-named
returns-in-Some-WebP-clause-named g c = webp_named c.rewrite_webp.result c.rewrite_webp.ensures.named

pub returns-in-Some-WebP-clause-memory : goal.returns-in-Some-WebP-clause-memory
returns-in-Some-WebP-clause-memory g c h = inr (search rules)

pub returns-in-Some-Heif-clause-stopped : goal.returns-in-Some-Heif-clause-stopped
returns-in-Some-Heif-clause-stopped g c =
    let put = payload_of c.args.put in
    let left = g.R.Source.left c.args.source.now in
    let f = rewriting_as c.args.format c.args.remove put in
    refused_unsent heif_stays left (g.W.Sink.taken c.args.out.now) f (always_known (λ xs. f xs ≡ Err heif_stays) left (heif_refused c.args.format c.args.remove put (search rules)))

pub returns-in-Some-Heif-clause-named : goal.returns-in-Some-Heif-clause-named
returns-in-Some-Heif-clause-named g c = (2, omega arith, refl)

pub returns-in-Some-Tiff-clause-stopped : goal.returns-in-Some-Tiff-clause-stopped
returns-in-Some-Tiff-clause-stopped g c =
    let put = payload_of c.args.put in
    let left = g.R.Source.left c.args.source.now in
    let f = rewriting_as c.args.format c.args.remove put in
    refused_unsent tiff_stays left (g.W.Sink.taken c.args.out.now) f (always_known (λ xs. f xs ≡ Err tiff_stays) left (tiff_refused c.args.format c.args.remove put (search rules)))

pub returns-in-Some-Tiff-clause-named : goal.returns-in-Some-Tiff-clause-named
returns-in-Some-Tiff-clause-named g c = (1, omega arith, refl)

pub returns-in-None-clause-stopped : goal.returns-in-None-clause-stopped
returns-in-None-clause-stopped g c =
    let put = payload_of c.args.put in
    let left = g.R.Source.left c.args.source.now in
    let f = rewriting_as c.args.format c.args.remove put in
    refused_unsent unknown_format left (g.W.Sink.taken c.args.out.now) f (always_known (λ xs. f xs ≡ Err unknown_format) left (unknown_refused c.args.format c.args.remove put (search rules)))
