use Rattle.std.proofs.Common.{◌<◌, length, rules}
use Rattle.exif_writer.proofs.SendSizes.{slots_text_some}
use Rattle.exif_writer.proofs.SendChains.{sends_then, sends_stop}
use Rattle.exif_writer.proofs.send.send_directory.Goals as goal

pub returns-in_err-send_u16 : goal.returns-in_err-send_u16
returns-in_err-send_u16 g c =
    let some : 0 < length c.args.slots.now = search rules in record {
      sends = rw (slots_text_some c.args.order c.args.offsets.now c.args.next c.args.slots.now some)
          (sends_stop _ c.in_err-send_u16.ensures.sends c.from_residual.ensures.0);
    }

pub returns-in_err-send_entries : goal.returns-in_err-send_entries
returns-in_err-send_entries g c =
    let some : 0 < length c.args.slots.now = search rules in record {
      sends = rw (slots_text_some c.args.order c.args.offsets.now c.args.next c.args.slots.now some)
          (sends_then c.in_ok-send_u16.ensures.sends (sends_stop _ c.in_err-send_entries.ensures.sends c.from_residual-in_err-send_entries.ensures.0));
    }

pub returns : goal.returns
returns g c =
    let some : 0 < length c.args.slots.now = search rules in record {
      sends = rw (slots_text_some c.args.order c.args.offsets.now c.args.next c.args.slots.now some)
          (sends_then c.in_ok-send_u16.ensures.sends (sends_then c.in_ok-send_entries.ensures.sends c.send_u32.ensures.sends));
    }
