use Rattle.std.proofs.Common.{◌≡◌, rules}
use Rattle.std.specs.Int.{w32, cast_unsigned}
use Rattle.exif_base.proofs.Sending.{sends_then, sends_stop}
use Rattle.exif_layout.proofs.item.SRationalItem.send.Goals as goal

pub returns-in_err-send_u32 : goal.returns-in_err-send_u32
returns-in_err-send_u32 g c =
    let num : c.cast_unsigned.result ≡ cast_unsigned w32 c.args.self.now.num = search rules in
    record { sends = sends_stop _ (rw num at c.in_err-send_u32.ensures.sends) c.from_residual.ensures.0 }

pub returns : goal.returns
returns g c =
    let num : c.cast_unsigned.result ≡ cast_unsigned w32 c.args.self.now.num = search rules in
    let denom : c.cast_unsigned-2.result ≡ cast_unsigned w32 c.args.self.now.denom = search rules in
    record { sends = sends_then (rw num at c.in_ok-send_u32.ensures.sends) (rw denom at c.send_u32-2.ensures.sends) }
