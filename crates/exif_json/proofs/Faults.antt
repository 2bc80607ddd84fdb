-- Faults that are of an invalid format are shown by their text.
use Rattle.std.proofs.Common.{◌≡◌, Option, Some, None, IfSome, refl, subst}
use Rattle.exif_types.specs.Failures.{Failure, IsInvalidFormat, bytes_of, error_text, told_text}
use Rattle.exif_types.specs.declared.error.Error.TheVariants as error

-- an error of an invalid format is shown as its text
pub shown_text : (e : Failure) → IsInvalidFormat e → error_text e ≡ Some (bytes_of (told_text e))
shown_text (error.InvalidFormat text) h = refl
shown_text (error.Io cause) h = absurd h
shown_text (error.NotFound text) h = absurd h
shown_text (error.BlankValue text) h = absurd h
shown_text (error.TooBig text) h = absurd h
shown_text (error.NotSupported text) h = absurd h
shown_text (error.UnexpectedValue text) h = absurd h
shown_text (error.PartialResult partial) h = absurd h
shown_text error.OutOfMemory h = absurd h

-- what holds of what is there
pub if_some : {A : Type 0} (o : Option A) (P : A → Type 0) → ((x : A) → o ≡ Some x → P x) → IfSome o P
if_some None P h = tt
if_some (Some x) P h = h x refl

-- what holds of a value if there is one holds of the value that is there
pub of_some : {A : Type 0} (o : Option A) (P : A → Type 0) (x : A) → o ≡ Some x → IfSome o P → P x
of_some o P x is h = subst (λ q. IfSome q P) is h
