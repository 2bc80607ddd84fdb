-- What a call that may run out of memory promises.
use Rattle.std.specs.Prelude.{◌≡◌, Result, Ok, Err}
use Rattle.exif_iptc.specs.declared.fault.Refusal.{Refusal}
use Rattle.exif_iptc.specs.declared.fault.ReadError.{ReadError}
use Rattle.exif_iptc.specs.declared.fault.ReadError.TheVariants as errors

-- out of memory, or this refusal
abbrev pub Fails : {Y : Type 0} → ReadError → Result Y Refusal → Type 0
Fails errors.Memory answer = Unit {0}
Fails (errors.Refused r) answer = answer ≡ Err r

-- what was returned, seen by view, is the answer, unless memory ran out
abbrev pub Answers : {X Y : Type 0} → (X → Y) → Result X ReadError → Result Y Refusal → Type 0
Answers view (Ok x) answer = answer ≡ Ok (view x)
Answers view (Err e) answer = Fails e answer
