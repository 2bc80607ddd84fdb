use Rattle.std.proofs.Common.{sym}
use Rattle.std.proofs.lemmas.Result.{err_from_is_err_and}
use Rattle.exif_edit_base.specs.Readings.{read_of}
use Rattle.exif_grow.proofs.CreateSteps.{create_orphan, create_parent, create_stopped}
use Rattle.exif_grow.proofs.create.create.Goals as goal

pub returns-in_err-parsed-clause-answer : goal.returns-in_err-parsed-clause-answer
returns-in_err-parsed-clause-answer c =
    let p = err_from_is_err_and c.from_residual.result c.from_residual.ensures.1 in
    rw p.1 (create_stopped c.in_err-parsed.field-0.0 c.args.bytes.now c.args.tag c.args.ifd_num
    c.args.value.now p.0 c.in_err-parsed.ensures.reads p.2)

pub returns-in-None-clause-answer : goal.returns-in-None-clause-answer
returns-in-None-clause-answer c =
    create_orphan c.args.bytes.now c.args.tag c.args.ifd_num c.args.value.now
    (read_of c.in_ok-parsed.parsed) c.in_ok-parsed.ensures.reads (sym c.in-None.ensures)

pub returns-in-Some-clause-answer : goal.returns-in-Some-clause-answer
returns-in-Some-clause-answer c =
    rw (create_parent c.args.bytes.now c.args.tag c.args.ifd_num c.args.value.now
    (read_of c.in_ok-parsed.parsed) c.in-Some.parent c.in_ok-parsed.ensures.reads
    (sym c.in-Some.ensures)) c.create_under.ensures.answer
