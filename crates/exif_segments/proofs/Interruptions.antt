-- Errors that say nothing of the bytes.
use Rattle.std.proofs.Common.{◌≡◌, None, refl}
use Rattle.exif_types.specs.Failures.{Failure}
use Rattle.exif_types.specs.declared.error.Error.TheVariants as error
use Rattle.exif_types.specs.Refusals.{refusal_of, IsInterrupted}

-- an interruption is no refusal
pub interrupted_none : (e : Failure) → IsInterrupted e → refusal_of e ≡ None
interrupted_none (error.Io cause) h = refl
interrupted_none error.OutOfMemory h = refl
interrupted_none (error.InvalidFormat text) h = absurd h
interrupted_none (error.NotFound text) h = absurd h
interrupted_none (error.BlankValue text) h = absurd h
interrupted_none (error.TooBig text) h = absurd h
interrupted_none (error.NotSupported text) h = absurd h
interrupted_none (error.UnexpectedValue text) h = absurd h
interrupted_none (error.PartialResult partial) h = absurd h
