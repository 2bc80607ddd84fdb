use Rattle.std.proofs.Common.{Ok, Err}
use Rattle.std.proofs.lemmas.Result.{err_from_is_err_and}
use Rattle.exif_types.specs.Refusals.{IsInterrupted}
use Rattle.exif_tiff.specs.Answers.{raw_answer}
use Rattle.exif_tiff.specs.Readings.{HoldsFront, ReadsHeld}
use Rattle.exif_reader.proofs.ReaderFronts.{reads_all, told_rest}
use Rattle.exif_reader.proofs.reader.Reader.read_on.Goals as goal

pub returns-in_err-exif-clause-reads : goal.returns-in_err-exif-clause-reads
returns-in_err-exif-clause-reads g c =
    let answer = raw_answer c.args.self.now.lenient c.args.self.now.limit in
    let p = err_from_is_err_and c.from_residual-in_err-exif.result c.from_residual-in_err-exif.ensures.1 in
    rw (p.1, p.2) (told_rest (g.R.Source.left c.args.source.now) c.args.data.items c.read_rest.new.list.items
    (λ bytes. ReadsHeld HoldsFront IsInterrupted (answer bytes) bytes (Err c.in_err-exif.field-0.0)) c.in_ok-read_rest.ensures.taken
    (reads_all (answer c.read_rest.new.list.items) c.read_rest.new.list.items (Err c.in_err-exif.field-0.0) c.in_err-exif.ensures.reads))

pub returns-clause-reads : goal.returns-clause-reads
returns-clause-reads g c =
    let answer = raw_answer c.args.self.now.lenient c.args.self.now.limit in
    told_rest (g.R.Source.left c.args.source.now) c.args.data.items c.read_rest.new.list.items
    (λ bytes. ReadsHeld HoldsFront IsInterrupted (answer bytes) bytes (Ok c.in_ok-exif.exif)) c.in_ok-read_rest.ensures.taken
    (reads_all (answer c.read_rest.new.list.items) c.read_rest.new.list.items (Ok c.in_ok-exif.exif) c.in_ok-exif.ensures.reads)
