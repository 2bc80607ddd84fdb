use Rattle.exif_writer.proofs.SendChains.{sends_then, sends_stop}
use Rattle.exif_writer.proofs.plan.Plan.send_values.Goals as goal

pub returns-in_err-send_values : goal.returns-in_err-send_values
returns-in_err-send_values g c =
    record { sends = sends_stop _ (rw c.as_slice.ensures.value at c.in_err-send_values.ensures.sends) c.from_residual.ensures.0 }

pub returns-in_err-send_values-2 : goal.returns-in_err-send_values-2
returns-in_err-send_values-2 g c =
    record { sends = sends_then (rw c.as_slice.ensures.value at c.in_ok-send_values.ensures.sends) (sends_stop _ (rw c.as_slice-2.ensures.value at c.in_err-send_values-2.ensures.sends) c.from_residual-in_err-send_values-2.ensures.0) }

pub returns-in_err-send_values-3 : goal.returns-in_err-send_values-3
returns-in_err-send_values-3 g c =
    record { sends = sends_then (rw c.as_slice.ensures.value at c.in_ok-send_values.ensures.sends) (sends_then (rw c.as_slice-2.ensures.value at c.in_ok-send_values-2.ensures.sends) (sends_stop _ (rw c.as_slice-3.ensures.value at c.in_err-send_values-3.ensures.sends) c.from_residual-in_err-send_values-3.ensures.0)) }

pub returns : goal.returns
returns g c =
    record { sends = sends_then (rw c.as_slice.ensures.value at c.in_ok-send_values.ensures.sends) (sends_then (rw c.as_slice-2.ensures.value at c.in_ok-send_values-2.ensures.sends) (sends_then (rw c.as_slice-3.ensures.value at c.in_ok-send_values-3.ensures.sends) (rw c.as_slice-4.ensures.value at c.send_values-4.ensures.sends))) }
