use Rattle.exif_base.proofs.Sending.{sends_then, sends_stop}
use Rattle.exif_layout.proofs.item.ItemsU8Item.send.Goals as goal

pub returns-in_err-send_all : goal.returns-in_err-send_all
returns-in_err-send_all g c =
    record { sends = sends_stop _ (rw c.as_slice.ensures at c.in_err-send_all.ensures.sends) c.from_residual.ensures.0 }

pub returns : goal.returns
returns g c = record { sends = sends_then (rw c.as_slice.ensures at c.in_ok-send_all.ensures.sends) c.send_zeros.ensures.sends }
