use Rattle.exif_writer.proofs.SendChains.{sends_then, sends_stop}
use Rattle.exif_writer.proofs.plan.Plan.send_directories.Goals as goal

pub returns-in_err-send_zeros : goal.returns-in_err-send_zeros
returns-in_err-send_zeros g c =
    record { sends = sends_stop _ c.in_err-send_zeros.ensures.sends c.from_residual.ensures.0 }

pub returns-in_err-send_directory : goal.returns-in_err-send_directory
returns-in_err-send_directory g c =
    record { sends = sends_then c.in_ok-send_zeros.ensures.sends (sends_stop _ (rw c.as_slice.ensures.value at c.in_err-send_directory.ensures.sends) c.from_residual-in_err-send_directory.ensures.0) }

pub returns-in_err-send_directory-2 : goal.returns-in_err-send_directory-2
returns-in_err-send_directory-2 g c =
    record { sends = sends_then c.in_ok-send_zeros.ensures.sends (sends_then (rw c.as_slice.ensures.value at c.in_ok-send_directory.ensures.sends) (sends_stop _ (rw c.as_slice-2.ensures.value at c.in_err-send_directory-2.ensures.sends) c.from_residual-in_err-send_directory-2.ensures.0)) }

pub returns-in_err-send_directory-3 : goal.returns-in_err-send_directory-3
returns-in_err-send_directory-3 g c =
    record { sends = sends_then c.in_ok-send_zeros.ensures.sends (sends_then (rw c.as_slice.ensures.value at c.in_ok-send_directory.ensures.sends) (sends_then (rw c.as_slice-2.ensures.value at c.in_ok-send_directory-2.ensures.sends) (sends_stop _ (rw c.as_slice-3.ensures.value at c.in_err-send_directory-3.ensures.sends) c.from_residual-in_err-send_directory-3.ensures.0))) }

pub returns : goal.returns
returns g c =
    record { sends = sends_then c.in_ok-send_zeros.ensures.sends (sends_then (rw c.as_slice.ensures.value at c.in_ok-send_directory.ensures.sends) (sends_then (rw c.as_slice-2.ensures.value at c.in_ok-send_directory-2.ensures.sends) (sends_then (rw c.as_slice-3.ensures.value at c.in_ok-send_directory-3.ensures.sends) (rw c.as_slice-4.ensures.value at c.send_directory-4.ensures.sends)))) }
