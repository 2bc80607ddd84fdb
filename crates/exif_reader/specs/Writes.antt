-- What a function that writes lines does, whether it came through, memory ran out or the writer
-- failed.
use Rattle.std.specs.Prelude.{◌≡◌, ℕ, List, Result, OnOk, OnErr, IfErr}
use Rattle.std.specs.Io.KnownBytes.{Appends}
use Rattle.exif_base.specs.Device.{count_after}
use Rattle.exif_base.specs.Sent.{SendsFront}
use Rattle.exif_base.specs.declared.device.Sink as sink
use Rattle.exif_types.specs.Failures.{Failure}
use Rattle.exif_types.specs.Refusals.{is_io, IsInterrupted}

-- a text was written whole, or stopped at a front of it by an interruption, and the writer's
-- failures alone were counted
pub record Writes {S T : Type 0} (W : sink.Ghosts S) (old new : S)
    (result : Result T Failure) (text : List ℕ) : Type 0 where
  pub sent : OnOk result (Appends (W.taken old) (W.taken new) text)
  pub front : OnErr result (SendsFront (W.taken old) (W.taken new) text)
  pub interrupted : IfErr result IsInterrupted
  pub count : W.failures new ≡ count_after (is_io result) (W.failures old)
  pub same : W.through new ≡ W.through old
