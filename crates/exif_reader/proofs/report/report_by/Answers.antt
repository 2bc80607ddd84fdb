use Rattle.std.proofs.Common.{rules}
use Rattle.std.proofs.lemmas.Option.{IfSome_then}
use Rattle.std.proofs.lemmas.Result.{err_from_is_err_and}
use Rattle.exif_reader.specs.Files.{file_answer}
use Rattle.exif_tiff.specs.Answers.{raw_answer}
use Rattle.exif_containers.specs.Container.{container_answer}
use Rattle.exif_reader.proofs.ReportingFindings.{reports_whole, reports_front, reports_none, some_whole, some_front, some_none}
use Rattle.exif_reader.proofs.report.report_by.Goals as goal

pub returns-in_err-exif-clause-reports : goal.returns-in_err-exif-clause-reports
returns-in_err-exif-clause-reports g c =
    let p = err_from_is_err_and c.from_residual.result c.from_residual.ensures.1 in
    rw (p.1, p.2) (reports_none (g.R.Source.left c.args.reader.now) (g.W.Sink.taken c.args.out.now) (file_answer c.args.by.now.lenient c.args.by.now.limit) c.in_err-exif.field-0.0 (IfSome_then (g.R.Source.left c.args.reader.now) c.read_by_need.ensures.reads (λ bytes. c.in_err-exif.ensures.finds (raw_answer c.args.by.now.lenient c.args.by.now.limit) (container_answer bytes))))

pub returns-in_err-write_all-clause-reports : goal.returns-in_err-write_all-clause-reports
returns-in_err-write_all-clause-reports g c =
    let p = err_from_is_err_and c.from_residual-in_err-write_all.result c.from_residual-in_err-write_all.ensures.1 in
    rw (p.1, p.2) (reports_front (g.R.Source.left c.args.reader.now) (g.W.Sink.taken c.args.out.now) (g.W.Sink.taken c.write_all.new.out) (file_answer c.args.by.now.lenient c.args.by.now.limit)
    c.in_ok-exif.exif c.in_ok-exif.errors c.as_slice-faults.result.now c.in_err-write_all.field-0.0 (IfSome_then (g.R.Source.left c.args.reader.now) c.read_by_need.ensures.reads (λ bytes. c.in_ok-exif.ensures.finds (raw_answer c.args.by.now.lenient c.args.by.now.limit) (container_answer bytes))) c.in_err-write_all.ensures.writes.interrupted
    (search rules) c.in_err-write_all.ensures.writes.front)

pub returns-clause-reports : goal.returns-clause-reports
returns-clause-reports g c =
    reports_whole (g.R.Source.left c.args.reader.now) (g.W.Sink.taken c.args.out.now) (g.W.Sink.taken c.write_all.new.out) (file_answer c.args.by.now.lenient c.args.by.now.limit)
    c.in_ok-exif.exif c.in_ok-exif.errors c.as_slice-faults.result.now (IfSome_then (g.R.Source.left c.args.reader.now) c.read_by_need.ensures.reads (λ bytes. c.in_ok-exif.ensures.finds (raw_answer c.args.by.now.lenient c.args.by.now.limit) (container_answer bytes)))
    (search rules) c.in_ok-write_all.ensures.writes.sent

pub returns-in_err-exif-clause-some : goal.returns-in_err-exif-clause-some
returns-in_err-exif-clause-some g c =
    let p = err_from_is_err_and c.from_residual.result c.from_residual.ensures.1 in
    rw (p.1, p.2) (some_none (g.W.Sink.taken c.args.out.now) (raw_answer c.args.by.now.lenient c.args.by.now.limit) c.in_err-exif.field-0.0 (c.in_err-exif.ensures.own (raw_answer c.args.by.now.lenient c.args.by.now.limit) c.read_by_need.ensures.own))

pub returns-in_err-write_all-clause-some : goal.returns-in_err-write_all-clause-some
returns-in_err-write_all-clause-some g c =
    let p = err_from_is_err_and c.from_residual-in_err-write_all.result c.from_residual-in_err-write_all.ensures.1 in
    rw (p.1, p.2) (some_front (g.W.Sink.taken c.args.out.now) (g.W.Sink.taken c.write_all.new.out) (raw_answer c.args.by.now.lenient c.args.by.now.limit)
    c.in_ok-exif.exif c.in_ok-exif.errors c.as_slice-faults.result.now c.in_err-write_all.field-0.0 (c.in_ok-exif.ensures.own (raw_answer c.args.by.now.lenient c.args.by.now.limit) c.read_by_need.ensures.own) c.in_err-write_all.ensures.writes.interrupted
    (search rules) c.in_err-write_all.ensures.writes.front)

pub returns-clause-some : goal.returns-clause-some
returns-clause-some g c =
    some_whole (g.W.Sink.taken c.args.out.now) (g.W.Sink.taken c.write_all.new.out) (raw_answer c.args.by.now.lenient c.args.by.now.limit)
    c.in_ok-exif.exif c.in_ok-exif.errors c.as_slice-faults.result.now (c.in_ok-exif.ensures.own (raw_answer c.args.by.now.lenient c.args.by.now.limit) c.read_by_need.ensures.own)
    (search rules) c.in_ok-write_all.ensures.writes.sent
