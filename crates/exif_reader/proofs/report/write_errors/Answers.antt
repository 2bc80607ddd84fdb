use Rattle.std.proofs.Common.{refl, ◌∙◌}
use Rattle.std.proofs.lemmas.Result.{err_from_is_err_and}
use Rattle.exif_reader.specs.Lines.{error_line}
use Rattle.exif_reader.proofs.ReportingLines.{sends_none, sends_member, sends_stop_member, sends_members, writes_members, writes_sent}
use Rattle.exif_reader.proofs.report.write_errors.Goals as goal

pub loop-error-init : goal.loop-error-init
loop-error-init g c = sends_none

pub loop-error-preserved : goal.loop-error-preserved
loop-error-preserved g c =
    sends_member error_line c.args.errors.now c.loop-error.error-index c.error-item.result c.error-item.result c.loop-error-test.true c.error-item.is c.loop-error.invariant
    (rw (c.as_bytes.ensures.value, c.in_ok-set_error_line.ensures.text) at (c.in_ok-send_all.ensures.sends))

pub returns-in_err-set_error_line : goal.returns-in_err-set_error_line
returns-in_err-set_error_line g c =
    let p = err_from_is_err_and c.from_residual.result c.from_residual.ensures.1 in
    record { writes = rw p.1 (writes_members error_line c.args.errors.now c.loop-error.error-index c.loop-error.invariant (p.2 ∙ c.in_err-set_error_line.ensures.memory)) }

pub returns-in_err-send_all : goal.returns-in_err-send_all
returns-in_err-send_all g c =
    let p = err_from_is_err_and c.from_residual-in_err-send_all.result c.from_residual-in_err-send_all.ensures.1 in
    record {
      writes = rw (p.1, p.2)
          (writes_sent (sends_stop_member error_line c.args.errors.now c.loop-error.error-index c.error-item.result c.error-item.result c.loop-error-test.true c.error-item.is c.loop-error.invariant
          (rw (c.as_bytes.ensures.value, c.in_ok-set_error_line.ensures.text) at (c.in_err-send_all.ensures.sends)) refl) refl tt);
    }

pub returns : goal.returns
returns g c = record {
  writes = writes_sent (sends_members error_line c.args.errors.now c.loop-error.error-index c.loop-error-test.false c.loop-error.invariant) refl tt;
}
