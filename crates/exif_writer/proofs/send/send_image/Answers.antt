use Rattle.exif_writer.proofs.SendChains.{sends_then, sends_stop, sends_failed, sends_kept}
use Rattle.exif_writer.proofs.send.send_image.Goals as goal

pub returns-in_err-send_header : goal.returns-in_err-send_header
returns-in_err-send_header g c = record { sends = sends_stop _ c.in_err-send_header.ensures.sends c.from_residual.ensures.0 }

pub returns-in_err-send_plans : goal.returns-in_err-send_plans
returns-in_err-send_plans g c =
    record { sends = sends_then c.in_ok-send_header.ensures.sends (sends_failed c.in_err-send_plans.ensures.sends c.from_residual-in_err-send_plans.ensures.0) }

pub returns-in_err-flush : goal.returns-in_err-flush
returns-in_err-flush g c = record {
  sends = sends_kept (sends_then c.in_ok-send_header.ensures.sends c.in_ok-send_plans.ensures.sends) c.in_err-flush.ensures.bytes
      (rw c.from_residual-in_err-flush.ensures.0 c.in_err-flush.ensures.count) c.in_err-flush.ensures.same;
}

pub returns : goal.returns
returns g c = record {
  sends = sends_kept (sends_then c.in_ok-send_header.ensures.sends c.in_ok-send_plans.ensures.sends) c.in_ok-flush.ensures.bytes
      c.in_ok-flush.ensures.count c.in_ok-flush.ensures.same;
}
