use Rattle.exif_writer.proofs.SendChains.{sends_then, sends_stop}
use Rattle.exif_writer.proofs.plan.Plan.send_blocks.Goals as goal

pub returns-in_err-send_blocks : goal.returns-in_err-send_blocks
returns-in_err-send_blocks g c =
    record { sends = sends_stop _ c.in_err-send_blocks.ensures.sends c.from_residual.ensures.0 }

pub returns-in_err-send_blocks-2 : goal.returns-in_err-send_blocks-2
returns-in_err-send_blocks-2 g c =
    record { sends = sends_then c.in_ok-send_blocks.ensures.sends (sends_stop _ c.in_err-send_blocks-2.ensures.sends c.from_residual-in_err-send_blocks-2.ensures.0) }

pub returns : goal.returns
returns g c =
    record { sends = sends_then c.in_ok-send_blocks.ensures.sends (sends_then c.in_ok-send_blocks-2.ensures.sends c.send_blocks-3.ensures.sends) }
