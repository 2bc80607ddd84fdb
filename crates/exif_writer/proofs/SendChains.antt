-- Sends, one after the other.
pub use Rattle.exif_base.proofs.Sending.{HasSent, sends_none, sends_whole, sends_then, sends_stop, sends_failed, sends_member, sends_stop_member, sends_members, sends_kept}
