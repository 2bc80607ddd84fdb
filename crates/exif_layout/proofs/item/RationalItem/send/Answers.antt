use Rattle.exif_base.proofs.Sending.{sends_then, sends_stop}
use Rattle.exif_layout.proofs.item.RationalItem.send.Goals as goal

pub returns-in_err-send_u32 : goal.returns-in_err-send_u32
returns-in_err-send_u32 g c = record { sends = sends_stop _ c.in_err-send_u32.ensures.sends c.from_residual.ensures.0 }

pub returns : goal.returns
returns g c = record { sends = sends_then c.in_ok-send_u32.ensures.sends c.send_u32-2.ensures.sends }
