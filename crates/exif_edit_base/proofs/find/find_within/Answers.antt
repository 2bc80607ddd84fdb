use Rattle.std.proofs.Common.{◌∙◌}
use Rattle.std.proofs.lemmas.Result.{err_from_is_err_and}
use Rattle.exif_edit_base.specs.Causes.{of_data}
use Rattle.exif_edit_base.specs.Finding.{find_answer}
use Rattle.exif_edit_base.specs.Readings.{read_of, reading}
use Rattle.exif_edit_base.proofs.FindSteps.{find_refused, find_missing, find_found, entry_below}
use Rattle.exif_edit_base.proofs.LimitedSteps.{limited_is, limited_on, limited_read}
use Rattle.exif_edit_base.proofs.find.find_within.Goals as goal

pub returns-in_err-parsed-clause-answer : goal.returns-in_err-parsed-clause-answer
returns-in_err-parsed-clause-answer c =
    let p = err_from_is_err_and c.from_residual.result c.from_residual.ensures.1 in
    rw (p.1, p.2) (limited_on c.args.limit c.args.bytes.now c.in_err-parsed.field-0.0
    (of_data (reading c.args.bytes.now))
    (find_answer c.args.bytes.now c.args.tag c.args.ifd_num) c.in_err-parsed.ensures.reads
    (λ r h. find_refused c.args.bytes.now c.args.tag c.args.ifd_num r h))

pub returns-in-None-clause-answer : goal.returns-in-None-clause-answer
returns-in-None-clause-answer c =
    let p = limited_read c.args.limit c.args.bytes.now
    (read_of c.in_ok-parsed.field-0.parsed) c.in_ok-parsed.ensures.reads in
    limited_is c.args.limit c.args.bytes.now
    (find_answer c.args.bytes.now c.args.tag c.args.ifd_num) p.0
    ∙ find_missing c.args.bytes.now c.args.tag c.args.ifd_num
    (read_of c.in_ok-parsed.field-0.parsed)
    p.1 (rw c.as_slice.ensures.value at c.in-None.ensures)

pub at-offset-requires : goal.at-offset-requires
at-offset-requires c =
    let p = limited_read c.args.limit c.args.bytes.now
    (read_of c.in_ok-parsed.field-0.parsed) c.in_ok-parsed.ensures.reads in
    rw c.entries.ensures
    (entry_below c.args.bytes.now c.args.tag c.args.ifd_num (read_of c.in_ok-parsed.field-0.parsed)
    c.in-Some.index c.in_ok-parsed.field-0.walk.entries p.1
    (rw c.as_slice.ensures.value at c.in-Some.ensures) c.in_ok-parsed.ensures.offsets.entries)

pub returns-in-Some-clause-answer : goal.returns-in-Some-clause-answer
returns-in-Some-clause-answer c =
    let p = limited_read c.args.limit c.args.bytes.now
    (read_of c.in_ok-parsed.field-0.parsed) c.in_ok-parsed.ensures.reads in
    limited_is c.args.limit c.args.bytes.now
    (find_answer c.args.bytes.now c.args.tag c.args.ifd_num) p.0
    ∙ find_found c.args.bytes.now c.args.tag c.args.ifd_num
    (read_of c.in_ok-parsed.field-0.parsed)
    c.in-Some.index c.at-offset.result c.in_ok-parsed.field-0.walk.entries p.1
    (rw c.as_slice.ensures.value at c.in-Some.ensures) c.in_ok-parsed.ensures.offsets.entries
    (rw c.entries.ensures at c.at-offset.ensures)
