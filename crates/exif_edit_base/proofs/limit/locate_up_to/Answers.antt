use Rattle.std.proofs.Common.{sym}
use Rattle.std.proofs.lemmas.Result.{err_from_is_err_and}
use Rattle.exif_edit_base.proofs.LimitedReading.{limited_found, limited_many, limited_stop, limited_whole, none_more}
use Rattle.exif_edit_base.proofs.limit.locate_up_to.Goals as goal

pub returns-then-has_limit_fault-clause-reads : goal.returns-then-has_limit_fault-clause-reads
returns-then-has_limit_fault-clause-reads c =
    limited_many c.args.limit c.args.bytes.now c.in_ok-located.located.parsed
    c.in_ok-located.ensures.says
    (sym (rw c.as_slice.ensures.value at c.if-has_limit_fault.ensures))

pub returns-clause-reads : goal.returns-clause-reads
returns-clause-reads c =
    limited_whole c.args.limit c.args.bytes.now c.in_ok-located.located.parsed
    c.in_ok-located.ensures.says c.in_ok-located.ensures.order
    (sym (rw c.as_slice.ensures.value at c.if-has_limit_fault.ensures))

pub returns-clause-offsets : goal.returns-clause-offsets
returns-clause-offsets c =
    limited_found c.args.limit c.args.bytes.now c.in_ok-located.located.walk
    (none_more c.args.limit c.args.bytes.now c.in_ok-located.located.parsed
    c.in_ok-located.ensures.says
    (sym (rw c.as_slice.ensures.value at c.if-has_limit_fault.ensures)))
    c.in_ok-located.ensures.offsets

pub returns-in_err-located-clause-reads : goal.returns-in_err-located-clause-reads
returns-in_err-located-clause-reads c =
    let p = err_from_is_err_and c.from_residual.result c.from_residual.ensures.1 in
    rw p.1 (limited_stop c.in_err-located.field-0.0 c.args.limit c.args.bytes.now p.0
    c.in_err-located.ensures.says p.2)
