use Rattle.std.proofs.Common.{false, true, refl, sym}
use Rattle.std.proofs.lemmas.Result.{err_from_is_err_and}
use Rattle.std.proofs.Math.Bool.{or-false}
use Rattle.exif_base.proofs.Sent.{keeps_same}
use Rattle.exif_types.specs.Refusals.{is_io_error}
use Rattle.exif_types.specs.declared.error.Error.TheVariants as error
use Rattle.exif_segments.specs.Removing.{payload_of}
use Rattle.exif_parts.specs.Webp.{webp_rewritten}
use Rattle.exif_rewrite.proofs.SendingFiles.{file_sent, made_stops, send_stops}
use Rattle.exif_rewrite.proofs.webp.rewrite_webp.Goals as goal

pub returns-in_err-new-clause-sent : goal.returns-in_err-new-clause-sent
returns-in_err-new-clause-sent g c =
    let p = err_from_is_err_and c.from_residual.result c.from_residual.ensures.1 in
    rw p.1 tt

pub returns-in_err-new-clause-stopped : goal.returns-in_err-new-clause-stopped
returns-in_err-new-clause-stopped g c =
    let p = err_from_is_err_and c.from_residual.result c.from_residual.ensures.1 in
    rw (p.1, p.2) (made_stops _ (g.R.Source.left c.args.source.now) (g.W.Sink.taken c.args.out.now) (webp_rewritten c.args.remove (payload_of c.args.put)) c.in_err-new.ensures.refused)

pub returns-in_err-new-clause-kept : goal.returns-in_err-new-clause-kept
returns-in_err-new-clause-kept g c =
    let p = err_from_is_err_and c.from_residual.result c.from_residual.ensures.1 in
    rw (p.1, p.2) (λ _. keeps_same (g.W.Sink.taken c.args.out.now))

pub returns-in_err-new-clause-named : goal.returns-in_err-new-clause-named
returns-in_err-new-clause-named g c =
    let p = err_from_is_err_and c.from_residual.result c.from_residual.ensures.1 in
    rw (p.1, p.2) c.in_err-new.ensures.named

pub returns-in_err-new-clause-count : goal.returns-in_err-new-clause-count
returns-in_err-new-clause-count g c =
    let p = err_from_is_err_and c.from_residual.result c.from_residual.ensures.1 in
    let e = c.in_err-new.field-0.0 in
    (is_io_error e, false, c.in_err-new.ensures.counts.count, refl, rw (p.1, p.2) (sym (or-false (is_io_error e))))

pub returns-in_err-new-clause-read_through : goal.returns-in_err-new-clause-read_through
returns-in_err-new-clause-read_through g c =
    c.in_err-new.ensures.counts.same

pub returns-in_err-new-clause-written_through : goal.returns-in_err-new-clause-written_through
returns-in_err-new-clause-written_through g c =
    refl

pub returns-in_err-send_file-clause-sent : goal.returns-in_err-send_file-clause-sent
returns-in_err-send_file-clause-sent g c =
    let p = err_from_is_err_and c.from_residual-in_err-send_file.result c.from_residual-in_err-send_file.ensures.1 in
    rw p.1 tt

pub returns-in_err-send_file-clause-stopped : goal.returns-in_err-send_file-clause-stopped
returns-in_err-send_file-clause-stopped g c =
    let p = err_from_is_err_and c.from_residual-in_err-send_file.result c.from_residual-in_err-send_file.ensures.1 in
    rw (p.1, p.2) (send_stops (error.Io c.in_err-send_file.field-0.0) (g.R.Source.left c.args.source.now) (g.W.Sink.taken c.args.out.now) _ c.in_ok-new.new.items (webp_rewritten c.args.remove (payload_of c.args.put))
    c.in_ok-new.ensures.made refl (rw c.deref.ensures.value at c.in_err-send_file.ensures.sends.front))

pub returns-in_err-send_file-clause-kept : goal.returns-in_err-send_file-clause-kept
returns-in_err-send_file-clause-kept g c =
    let p = err_from_is_err_and c.from_residual-in_err-send_file.result c.from_residual-in_err-send_file.ensures.1 in
    rw (p.1, p.2) (λ io. absurd (cc))

pub returns-in_err-send_file-clause-named : goal.returns-in_err-send_file-clause-named
returns-in_err-send_file-clause-named g c =
    let p = err_from_is_err_and c.from_residual-in_err-send_file.result c.from_residual-in_err-send_file.ensures.1 in
    rw (p.1, p.2) tt

pub returns-in_err-send_file-clause-count : goal.returns-in_err-send_file-clause-count
returns-in_err-send_file-clause-count g c =
    let p = err_from_is_err_and c.from_residual-in_err-send_file.result c.from_residual-in_err-send_file.ensures.1 in
    (false, true, c.in_ok-new.ensures.counts.count, c.in_err-send_file.ensures.sends.count, rw (p.1, p.2) refl)

pub returns-in_err-send_file-clause-read_through : goal.returns-in_err-send_file-clause-read_through
returns-in_err-send_file-clause-read_through g c =
    c.in_ok-new.ensures.counts.same

pub returns-in_err-send_file-clause-written_through : goal.returns-in_err-send_file-clause-written_through
returns-in_err-send_file-clause-written_through g c =
    c.in_err-send_file.ensures.sends.same

pub returns-clause-sent : goal.returns-clause-sent
returns-clause-sent g c =
    file_sent (g.R.Source.left c.args.source.now) (g.W.Sink.taken c.args.out.now) _ c.in_ok-new.new.items (webp_rewritten c.args.remove (payload_of c.args.put))
    c.in_ok-new.ensures.made (rw c.deref.ensures.value at c.in_ok-send_file.ensures.sends.sent)

pub returns-clause-stopped : goal.returns-clause-stopped
returns-clause-stopped g c =
    tt

pub returns-clause-kept : goal.returns-clause-kept
returns-clause-kept g c =
    tt

pub returns-clause-named : goal.returns-clause-named
returns-clause-named g c =
    tt

pub returns-clause-count : goal.returns-clause-count
returns-clause-count g c =
    (false, false, c.in_ok-new.ensures.counts.count, c.in_ok-send_file.ensures.sends.count, refl)

pub returns-clause-read_through : goal.returns-clause-read_through
returns-clause-read_through g c =
    c.in_ok-new.ensures.counts.same

pub returns-clause-written_through : goal.returns-clause-written_through
returns-clause-written_through g c =
    c.in_ok-send_file.ensures.sends.same
