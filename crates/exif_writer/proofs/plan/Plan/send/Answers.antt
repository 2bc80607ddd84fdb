use Rattle.exif_writer.proofs.SendChains.{sends_then, sends_stop}
use Rattle.exif_writer.proofs.plan.Plan.send.Goals as goal

pub returns-in_err-send_directories : goal.returns-in_err-send_directories
returns-in_err-send_directories g c =
    record { sends = sends_stop _ c.in_err-send_directories.ensures.sends c.from_residual.ensures.0 }

pub returns-in_err-send_values : goal.returns-in_err-send_values
returns-in_err-send_values g c =
    record { sends = sends_then c.in_ok-send_directories.ensures.sends (sends_stop _ c.in_err-send_values.ensures.sends c.from_residual-in_err-send_values.ensures.0) }

pub returns : goal.returns
returns g c =
    record { sends = sends_then c.in_ok-send_directories.ensures.sends (sends_then c.in_ok-send_values.ensures.sends c.send_blocks.ensures.sends) }
