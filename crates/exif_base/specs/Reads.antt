-- What the calls over a source say alike.
use Rattle.std.specs.Prelude.{◌≡◌, ℕ, Bool, Result}
use Rattle.std.specs.Io.KnownBytes.{IsAtEnd}
use Rattle.exif_base.specs.Device.{count_after}
use Rattle.exif_base.specs.ReadFaults.{OnEnd, is_io_fault}
use Rattle.exif_base.specs.Told.{HasFewer}
use Rattle.exif_base.specs.declared.device.Source as source
use Rattle.exif_base.specs.declared.read.ReadFault.{ReadFault}

-- a call over a source: its failure is counted, and it reads through the same references as before
pub record Counts {S : Type 0} (R : source.Ghosts S) (old new : S) (failed : Bool) : Type 0 where
  pub count : R.failures new ≡ count_after failed (R.failures old)
  pub same : R.through new ≡ R.through old

-- a read of n bytes: where it ends too early, fewer were left, and all of them were taken
pub record Reads {S T : Type 0} (R : source.Ghosts S) (old new : S) (n : ℕ)
    (result : Result T ReadFault) : Type 0 where
  pub end : OnEnd result (HasFewer (R.left old) n)
  pub at_end : OnEnd result (IsAtEnd (R.left new))
  pub count : R.failures new ≡ count_after (is_io_fault result) (R.failures old)
  pub same : R.through new ≡ R.through old
