use Rattle.std.proofs.Common.{Ok, Err, Result, Vec, ℕ, subst}
use Rattle.std.specs.Global.{Global}
use Rattle.std.proofs.lemmas.Result.{err_from_is_err_and}
use Rattle.exif_tiff.specs.Answers.{raw_answer}
use Rattle.exif_types.specs.Failures.{Failure}
use Rattle.exif_types.specs.Refusals.{Gives}
use Rattle.exif_formats.proofs.DataGiven.{data_stops, items_of, reads_given}
use Rattle.exif_formats.proofs.picture.read_data.Goals as goal

pub returns-clause-reads : goal.returns-clause-reads
returns-clause-reads c = λ container g.
    reads_given (raw_answer c.args.reader.now.lenient c.args.reader.now.limit) container c.args.data c.in_ok-bytes.bytes (Ok c.in_ok-exif.exif)
    c.in_ok-bytes.was g c.in_ok-exif.ensures.reads

pub returns-in_err-exif-clause-reads : goal.returns-in_err-exif-clause-reads
returns-in_err-exif-clause-reads c = λ container g.
    let p = err_from_is_err_and c.from_residual-in_err-exif.result c.from_residual-in_err-exif.ensures.1 in
    rw (p.1, p.2) (reads_given (raw_answer c.args.reader.now.lenient c.args.reader.now.limit) container c.args.data c.in_ok-bytes.bytes (Err c.in_err-exif.field-0.0)
    c.in_ok-bytes.was g c.in_err-exif.ensures.reads)

pub returns-in_err-bytes-clause-reads : goal.returns-in_err-bytes-clause-reads
returns-in_err-bytes-clause-reads c = λ container g.
    let p = err_from_is_err_and c.from_residual.result c.from_residual.ensures.1 in
    rw (p.1, p.2) (data_stops (raw_answer c.args.reader.now.lenient c.args.reader.now.limit) container c.in_err-bytes.field-0.0
    (subst (λ (d : Result (Vec ℕ Global) Failure). Gives items_of d container) c.in_err-bytes.was g))
