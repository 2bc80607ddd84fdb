use Rattle.exif_writer.proofs.SendChains.{sends_then, sends_stop}
use Rattle.exif_writer.proofs.send.send_header.Goals as goal

pub returns-in_err-send_all : goal.returns-in_err-send_all
returns-in_err-send_all g c =
    record { sends = sends_stop _ (rw c.order_mark.ensures at c.in_err-send_all.ensures.sends) c.from_residual.ensures.0 }

pub returns-in_err-send_u16 : goal.returns-in_err-send_u16
returns-in_err-send_u16 g c =
    record { sends = sends_then (rw c.order_mark.ensures at c.in_ok-send_all.ensures.sends) (sends_stop _ c.in_err-send_u16.ensures.sends c.from_residual-in_err-send_u16.ensures.0) }

pub returns : goal.returns
returns g c =
    record { sends = sends_then (rw c.order_mark.ensures at c.in_ok-send_all.ensures.sends) (sends_then c.in_ok-send_u16.ensures.sends c.send_u32.ensures.sends) }
