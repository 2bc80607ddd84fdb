-- What a container answers, and which errors say so.
use Rattle.std.specs.Prelude.{◌≡◌, ℕ, ◌-◌, List, length, Option, Some, IfErr, IfSome, MatchOption, Ok, Err}
use Rattle.std.specs.List.{Contains}
use Rattle.exif_base.specs.declared.read.ReadFault.{ReadFault}
use Rattle.exif_base.specs.declared.read.ReadFault.TheVariants as fault
use Rattle.exif_types.specs.Failures.{Failure}
use Rattle.exif_types.specs.declared.error.Error.TheVariants as error
use Rattle.exif_types.specs.Refusals.{Refusal, refusal_of, Front, IsInterrupted}

-- the Exif bytes and all that follows them, or a refusal
abbrev pub Answer : Type 0
Answer = Front (List ℕ)

-- the Exif bytes were found, and these follow them
abbrev pub found : List ℕ → List ℕ → Answer
found payload rest = Ok (payload, rest)

-- how many of these bytes come before the payload, which the rest follows
abbrev pub offset_before : List ℕ → List ℕ → List ℕ → ℕ
offset_before bytes payload rest = length bytes - length rest - length payload

-- the bytes give no Exif data, for this reason
abbrev pub refused : Refusal → Answer
refused r = Err r

-- the error that a fault becomes: the end of the bytes is this refusal, and the others stay what
-- they are
abbrev pub IsErrorOf : Refusal → ReadFault → Failure → Type 0
IsErrorOf broken fault.End e = refusal_of e ≡ Some broken
IsErrorOf broken (fault.Io cause) e = e ≡ error.Io cause
IsErrorOf broken fault.OutOfMemory e = e ≡ error.OutOfMemory

-- an error is an interruption, or says that the bytes ended, and then P holds of those that were
-- left
abbrev pub IsShort : Refusal → Failure → Option (List ℕ) → (List ℕ → Type 0) → Type 0
IsShort broken e left P =
    MatchOption (refusal_of e) (IsInterrupted e) (λ r. (r ≡ broken) × IfSome left P)

-- an error is an interruption, or one of these refusals
abbrev pub IsNamed : List Refusal → Failure → Type 0
IsNamed named e = MatchOption (refusal_of e) (IsInterrupted e) (Contains named)

-- the answer where a payload is collected: the Exif data, or the refusal of bytes that end in a
-- payload
abbrev pub IsCollected : Refusal → Answer → Type 0
IsCollected broken answer = IfErr answer (λ r. r ≡ broken)
