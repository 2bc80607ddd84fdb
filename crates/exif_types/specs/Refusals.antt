-- Refusals: what an error says of the bytes, and steps that may be refused, one after another.
use Rattle.std.specs.Prelude.{◌≡◌, ⊤, ℕ, List, [], ◌∷◌, ◌++◌, Bool, true, false, Option, Some, None, Result, Ok, Err, MatchOption}
use Rattle.std.specs.List.{last_or}
use Rattle.exif_types.specs.Failures.{Failure}
use Rattle.exif_types.specs.declared.error.Error.TheVariants as error

-- the kind of a refusal and its text
pub data Refusal : Type 0 where
  invalid_format : List ℕ → Refusal
  not_found : List ℕ → Refusal
  blank_value : List ℕ → Refusal
  too_big : List ℕ → Refusal
  not_supported : List ℕ → Refusal
  unexpected_value : List ℕ → Refusal

-- the refusal that an error is; a device's error, out of memory and a partial result are none
abbrev pub refusal_of : Failure → Option Refusal
refusal_of (error.InvalidFormat text) = Some (invalid_format text.now)
refusal_of (error.NotFound what) = Some (not_found what.now)
refusal_of (error.BlankValue text) = Some (blank_value text.now)
refusal_of (error.TooBig text) = Some (too_big text.now)
refusal_of (error.NotSupported text) = Some (not_supported text.now)
refusal_of (error.UnexpectedValue text) = Some (unexpected_value text.now)
refusal_of (error.Io cause) = None
refusal_of (error.PartialResult partial) = None
refusal_of error.OutOfMemory = None

-- a device's error came out
abbrev pub is_io_error : Failure → Bool
is_io_error (error.Io cause) = true
is_io_error (error.InvalidFormat text) = false
is_io_error (error.NotFound what) = false
is_io_error (error.BlankValue text) = false
is_io_error (error.TooBig text) = false
is_io_error (error.NotSupported text) = false
is_io_error (error.UnexpectedValue text) = false
is_io_error (error.PartialResult partial) = false
is_io_error error.OutOfMemory = false

-- memory or a device failed
abbrev pub IsInterrupted : Failure → Type 0
IsInterrupted (error.Io cause) = ⊤
IsInterrupted error.OutOfMemory = ⊤
IsInterrupted _ = ⊥

-- a device's error came out of a call
abbrev pub is_io : {T : Type 0} → Result T Failure → Bool
is_io (Ok x) = false
is_io (Err e) = is_io_error e

-- ---- steps that may be refused

-- one step after another: the first refusal is the answer
infixl 10 ◌>>=◌
abbrev pub ◌>>=◌ : {A B : Type 0} → Result A Refusal → (A → Result B Refusal) → Result B Refusal
(Ok x) >>= f = f x
(Err e) >>= f = Err e

-- the lists that each step in order gives, joined, or the first refusal
abbrev pub joined : {A B : Type 0} → (A → Result (List B) Refusal) → List A
    → Result (List B) Refusal
joined f [] = Ok []
joined f (x ∷ xs) = do
  ys ← f x
  rest ← joined f xs
  Ok (ys ++ rest)

-- each passes a test, or the first refusal
abbrev pub all_pass : {A : Type 0} → (A → Result (Unit {0}) Refusal) → List A
    → Result (Unit {0}) Refusal
all_pass test [] = Ok tt
all_pass test (x ∷ xs) = test x >>= λ u. all_pass test xs

-- the last of what was read, or the one from before
abbrev pub last_read : {A : Type 0} → Option A → Result (List A) Refusal → Result (Option A) Refusal
last_read found read = read >>= λ xs. Ok (last_or found xs)

-- a value, or this refusal where there is none
abbrev pub or_refuse : {A : Type 0} → Option A → Refusal → Result A Refusal
or_refuse (Some x) r = Ok x
or_refuse None r = Err r

-- nothing, or the refusal that there is
abbrev pub unless_refused : Option Refusal → Result (Unit {0}) Refusal
unless_refused None = Ok tt
unless_refused (Some r) = Err r

-- a value at the front of a text, and the text after it
abbrev pub Front : Type 0 → Type 0
Front A = Result (A × List ℕ) Refusal

-- ---- what a call that takes no memory says: its error is a refusal, and the answer's

-- an error is the answer's refusal
abbrev pub Refuses : {Y : Type 0} → Failure → Result Y Refusal → Type 0
Refuses e answer = MatchOption (refusal_of e) ⊥ (λ r. answer ≡ Err r)

-- a result, seen by view, is the answer
abbrev pub Answers : {X Y : Type 0} → (X → Y) → Result X Failure → Result Y Refusal → Type 0
Answers view (Ok x) answer = answer ≡ Ok (view x)
Answers view (Err e) answer = Refuses e answer

-- what a call answered, seen by view, and what it left, is the value at the front and the text
-- after it
abbrev pub Takes : {X Y : Type 0} → (X → Y) → Result X Failure → List ℕ → Front Y → Type 0
Takes view (Ok x) rest read = read ≡ Ok (view x, rest)
Takes view (Err e) rest read = Refuses e read

-- ---- what a call that takes memory says: the same, unless memory ran out or a device failed

-- an error is the answer's refusal, or an interruption
abbrev pub Fails : {Y : Type 0} → Failure → Result Y Refusal → Type 0
Fails e answer = MatchOption (refusal_of e) (IsInterrupted e) (λ r. answer ≡ Err r)

-- a result, seen by view, is the answer
abbrev pub Gives : {X Y : Type 0} → (X → Y) → Result X Failure → Result Y Refusal → Type 0
Gives view (Ok x) answer = answer ≡ Ok (view x)
Gives view (Err e) answer = Fails e answer

-- what a call answered, seen by view, and what it left, is the value at the front and the text
-- after it
abbrev pub TakesIfRoom : {X Y : Type 0} → (X → Y) → Result X Failure → List ℕ → Front Y → Type 0
TakesIfRoom view (Ok x) rest read = read ≡ Ok (view x, rest)
TakesIfRoom view (Err e) rest read = Fails e read
