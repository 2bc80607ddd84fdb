use Rattle.std.proofs.Common.{rules}
use Rattle.std.proofs.lemmas.Result.{err_from_is_err_and}
use Rattle.exif_segments.specs.Removing.{payload_of}
use Rattle.exif_rewrite.specs.RewrittenFile.{IsRewritten}
use Rattle.exif_rewrite.specs.SentFiles.{IsSent, StopsFile}
use Rattle.exif_rewrite.proofs.FileSteps.{file_holds, head_holds}
use Rattle.exif_rewrite.proofs.by_head.rewrite.Goals as goal

pub returns-in_err-rewrite_as-clause-stopped : goal.returns-in_err-rewrite_as-clause-stopped
returns-in_err-rewrite_as-clause-stopped g c =
    let p = err_from_is_err_and c.from_residual-in_err-rewrite_as.result c.from_residual-in_err-rewrite_as.ensures.1 in
    let head = c.in_ok-filled.ensures in
    rw (p.1, p.2) (file_holds (StopsFile c.in_err-rewrite_as.field-0.0 (g.W.Sink.taken c.args.out.now) (g.W.Sink.taken c.rewrite_as.new.out))
    c.args.remove (payload_of c.args.put) c.in_ok-filled.filled c.read_front.new.buf _ (g.R.Source.left c.args.source.now) (g.R.Source.left c.read_front.new.source) _
    head.taken head.bound (search rules) head.end c.format_of-format.ensures (search rules) c.in_err-rewrite_as.ensures.stopped)

pub returns-in_err-rewrite_as-clause-memory : goal.returns-in_err-rewrite_as-clause-memory
returns-in_err-rewrite_as-clause-memory g c h =
    let p = err_from_is_err_and c.from_residual-in_err-rewrite_as.result c.from_residual-in_err-rewrite_as.ensures.1 in
    let head = c.in_ok-filled.ensures in
    head_holds IsRewritten c.in_ok-filled.filled c.read_front.new.buf _ (g.R.Source.left c.args.source.now) (g.R.Source.left c.read_front.new.source)
    head.taken head.bound (search rules) head.end c.format_of-format.ensures (c.in_err-rewrite_as.ensures.memory (rw (p.1, p.2) at h))

pub returns-clause-sent : goal.returns-clause-sent
returns-clause-sent g c =
    let head = c.in_ok-filled.ensures in
    file_holds (IsSent (g.W.Sink.taken c.args.out.now) (g.W.Sink.taken c.rewrite_as.new.out))
    c.args.remove (payload_of c.args.put) c.in_ok-filled.filled c.read_front.new.buf _ (g.R.Source.left c.args.source.now) (g.R.Source.left c.read_front.new.source) _
    head.taken head.bound (search rules) head.end c.format_of-format.ensures (search rules) c.in_ok-rewrite_as.ensures.sent
