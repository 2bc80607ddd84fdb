use Rattle.std.proofs.Common.{◌∙◌}
use Rattle.std.proofs.lemmas.Result.{err_from_is_err_and}
use Rattle.std.specs.List.{flat_map}
use Rattle.exif_reader.specs.Lines.{error_line}
use Rattle.exif_reader.proofs.ReportingLines.{writes_then, writes_stop, writes_kept}
use Rattle.exif_reader.proofs.report.write_all.Goals as goal

pub returns-in_err-write_fields : goal.returns-in_err-write_fields
returns-in_err-write_fields g c =
    let p = err_from_is_err_and c.from_residual.result c.from_residual.ensures.1 in
    record {
      writes = rw (p.1, p.2) (writes_stop (flat_map error_line c.args.errors.now) (rw (c.fields_left.ensures ∙ c.fields.ensures.fields) at (c.in_err-write_fields.ensures.writes)));
    }

pub returns-in_err-write_errors : goal.returns-in_err-write_errors
returns-in_err-write_errors g c =
    let p = err_from_is_err_and c.from_residual-in_err-write_errors.result c.from_residual-in_err-write_errors.ensures.1 in
    record {
      writes = rw (p.1, p.2) (writes_then (rw (c.fields_left.ensures ∙ c.fields.ensures.fields) at (c.in_ok-write_fields.ensures.writes)) c.in_err-write_errors.ensures.writes);
    }

pub returns-in_err-flush : goal.returns-in_err-flush
returns-in_err-flush g c =
    let p = err_from_is_err_and c.from_residual-in_err-flush.result c.from_residual-in_err-flush.ensures.1 in
    let both = writes_then (rw (c.fields_left.ensures ∙ c.fields.ensures.fields) at (c.in_ok-write_fields.ensures.writes)) c.in_ok-write_errors.ensures.writes in
    record { writes = rw (p.1, p.2) (writes_kept both c.in_err-flush.ensures.bytes c.in_err-flush.ensures.count c.in_err-flush.ensures.same tt) }
