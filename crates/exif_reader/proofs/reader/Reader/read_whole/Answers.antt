use Rattle.std.proofs.Common.{Ok, Err}
use Rattle.std.proofs.lemmas.Result.{err_from_is_err_and}
use Rattle.exif_tiff.specs.Answers.{raw_answer}
use Rattle.exif_containers.specs.Container.{answer_as}
use Rattle.exif_reader.proofs.ReaderOwnData.{answers_own_data, given_reads}
use Rattle.exif_reader.proofs.reader.Reader.read_whole.Goals as goal

pub returns-in_err-exif-clause-reads : goal.returns-in_err-exif-clause-reads
returns-in_err-exif-clause-reads g c =
    let p = err_from_is_err_and c.from_residual-in_err-exif.result c.from_residual-in_err-exif.ensures.1 in
    rw (p.1, p.2) (given_reads (raw_answer c.args.self.now.lenient c.args.self.now.limit) (answer_as c.args.format)
    (g.R.Source.left c.args.source.now) c.in_ok-bytes.bytes.items (Err c.in_err-exif.field-0.0) _
    c.in_ok-bytes.ensures.gives c.in_err-exif.ensures.reads)

pub returns-in_err-exif-clause-own : goal.returns-in_err-exif-clause-own
returns-in_err-exif-clause-own g c =
    let p = err_from_is_err_and c.from_residual-in_err-exif.result c.from_residual-in_err-exif.ensures.1 in
    rw (p.1, p.2) (answers_own_data (raw_answer c.args.self.now.lenient c.args.self.now.limit)
    c.in_ok-bytes.bytes.items (Err c.in_err-exif.field-0.0) c.in_err-exif.ensures.reads)

pub returns-in_err-exif-clause-bounded : goal.returns-in_err-exif-clause-bounded
returns-in_err-exif-clause-bounded g c =
    let p = err_from_is_err_and c.from_residual-in_err-exif.result c.from_residual-in_err-exif.ensures.1 in
    rw (p.1, p.2) c.in_err-exif.ensures.bounded

pub returns-clause-reads : goal.returns-clause-reads
returns-clause-reads g c =
    given_reads (raw_answer c.args.self.now.lenient c.args.self.now.limit) (answer_as c.args.format)
    (g.R.Source.left c.args.source.now) c.in_ok-bytes.bytes.items (Ok c.in_ok-exif.exif) _
    c.in_ok-bytes.ensures.gives c.in_ok-exif.ensures.reads

pub returns-clause-own : goal.returns-clause-own
returns-clause-own g c =
    answers_own_data (raw_answer c.args.self.now.lenient c.args.self.now.limit)
    c.in_ok-bytes.bytes.items (Ok c.in_ok-exif.exif) c.in_ok-exif.ensures.reads

pub returns-clause-bounded : goal.returns-clause-bounded
returns-clause-bounded g c = c.in_ok-exif.ensures.bounded
