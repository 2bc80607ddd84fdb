-- A whole file that is made of what a source holds, and is sent to a sink.
use Rattle.std.specs.Prelude.{◌≡◌, ℕ, List, [], Option, Result, Ok, Err, MatchOption}
use Rattle.std.specs.Io.KnownBytes.{Appends}
use Rattle.exif_base.specs.Sent.{SendsFront}
use Rattle.exif_types.specs.Failures.{Failure}
use Rattle.exif_types.specs.Refusals.{Refusal, refusal_of}

-- the whole file was sent
abbrev pub IsSent : Option (List ℕ) → Option (List ℕ) → Result (List ℕ) Refusal → Type 0
IsSent taken taken' answer =
    (text : List ℕ) × (answer ≡ Ok text) × Appends taken taken' text

-- what is sent of a file: nothing where it is refused
abbrev pub sent_of : Result (List ℕ) Refusal → List ℕ
sent_of (Ok text) = text
sent_of (Err r) = []

-- what an error left: a front of the file, and a refusal is the file's
abbrev pub StopsFile : Failure → Option (List ℕ) → Option (List ℕ)
    → Result (List ℕ) Refusal → Type 0
StopsFile e taken taken' answer =
    SendsFront taken taken' (sent_of answer)
    × MatchOption (refusal_of e) (Unit {0}) (λ r. answer ≡ Err r)
