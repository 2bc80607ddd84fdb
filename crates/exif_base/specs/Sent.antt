-- What a send to a sink did, whether it came through or failed.
use Rattle.std.specs.Prelude.{◌≡◌, ℕ, List, ◌++◌, Option, Result, OnOk, OnErr, is_err}
use Rattle.std.specs.Io.KnownBytes.{Appends}
use Rattle.exif_base.specs.Device.{count_after}
use Rattle.exif_base.specs.Told.{WhereTold}
use Rattle.exif_base.specs.declared.device.Sink as sink

-- exactly a front of the bytes was taken
abbrev pub SendsFront : Option (List ℕ) → Option (List ℕ) → List ℕ → Type 0
SendsFront old new bytes = WhereTold old new (λ xs ys. (front rest : List ℕ) × (bytes ≡ front ++ rest) × (ys ≡ xs ++ front))

-- a text was sent whole, or stopped at a front of it where the sink failed, and that failure alone
-- was counted
pub record Sends {S T E : Type 0} (W : sink.Ghosts S) (old new : S) (result : Result T E) (text : List ℕ) : Type 0 where
  pub sent : OnOk result (Appends (W.taken old) (W.taken new) text)
  pub front : OnErr result (SendsFront (W.taken old) (W.taken new) text)
  pub count : W.failures new ≡ count_after (is_err result) (W.failures old)
  pub same : W.through new ≡ W.through old
