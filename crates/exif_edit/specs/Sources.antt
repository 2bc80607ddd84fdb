-- What edits of sources answer: a source can fail, too.
use Rattle.std.specs.Prelude.{◌≡◌, ⊤, ℕ, Bool, true, false, List, take, Option, Some, Result, Ok, Err, MatchOption}
use Rattle.exif_containers.specs.Container.{format_in}
use Rattle.exif_containers.specs.declared.container.Format.{Format}
use Rattle.exif_containers.specs.declared.container.Format.TheVariants.{Heif}
use Rattle.exif_types.specs.Refusals.{IsInterrupted, is_io_error}
use Rattle.exif_edit_base.specs.Causes.{Cause, cause_of}
use Rattle.exif_edit_base.specs.declared.error.Error.{Error}
use Rattle.exif_edit_base.specs.declared.error.Error.TheVariants as error

-- memory or the source failed
abbrev pub IsStopped : Error → Type 0
IsStopped error.OutOfMemory = ⊤
IsStopped (error.Container e) = IsInterrupted e
IsStopped _ = ⊥

-- an error is the answer's refusal, or memory or the source failed
abbrev pub FailsOrStops : {Y : Type 0} → Error → Result Y Cause → Type 0
FailsOrStops e answer = MatchOption (cause_of e) (IsStopped e) (λ c. answer ≡ Err c)

-- a result, seen by view, is the answer, or was stopped
abbrev pub MakesOrStops : {X Y : Type 0} → (X → Y) → Result X Error → Result Y Cause → Type 0
MakesOrStops view (Ok x) answer = answer ≡ Ok (view x)
MakesOrStops view (Err e) answer = FailsOrStops e answer

-- an error is the source's
abbrev pub is_device_error : Error → Bool
is_device_error (error.Container e) = is_io_error e
is_device_error _ = false

-- whether a result is the source's error
abbrev pub is_device : {T : Type 0} → Result T Error → Bool
is_device (Ok x) = false
is_device (Err e) = is_device_error e

-- whether a container is one whose data are an item
abbrev pub is_item : Option Format → Bool
is_item (Some Heif) = true
is_item _ = false

-- whether a file is of such a container, which its first 4096 bytes say
abbrev pub has_item : List ℕ → Bool
has_item file = is_item (format_in (take 4096 file))
