-- Steps over data that have a limit on their entries.
use Rattle.std.proofs.Common.{◌≡◌, Bool, true, false, ℕ, List, Option, Result, Ok, Err, ap, refl}
use Rattle.exif_tiff.specs.declared.fault.Fault.TheVariants.{TooManyEntries}
use Rattle.exif_tiff.specs.declared.stop.Stop.{Stop}
use Rattle.exif_tiff.specs.declared.stop.Stop.TheVariants as stop
use Rattle.exif_edit_base.specs.Causes.{Becomes, Cause, Fails, of_data, unless, wrong_header, ◌>>=◌}
use Rattle.exif_edit_base.specs.EntryLimit.{exceeds, limited, limited_reading, within_limit}
use Rattle.exif_edit_base.specs.Readings.{Read, ReadsTo, reading}
use Rattle.exif_edit_base.specs.declared.error.Error.{Error}
use Rattle.exif_edit_base.proofs.CauseSteps.{data_read, passed, refused_on}

-- within the limit an answer is what it is
pub limited_is : {A : Type 0} (limit : Option ℕ) (bytes : List ℕ) (x : Result A Cause)
    → exceeds limit bytes ≡ false → limited limit bytes x ≡ x
limited_is limit bytes x h = rw h refl

-- an answer that is none of refusal is one within the limit
pub limited_ok : {A : Type 0} (limit : Option ℕ) (bytes : List ℕ) (x : Result A Cause) (a : A)
    → limited limit bytes x ≡ Ok a → (exceeds limit bytes ≡ false) × (x ≡ Ok a)
limited_ok limit bytes x a h =
    passed (exceeds limit bytes) (wrong_header TooManyEntries) (λ u. x) a h

-- so is a reading
pub limited_read : (limit : Option ℕ) (bytes : List ℕ) (read : Read)
    → limited_reading limit bytes ≡ Ok read
    → (exceeds limit bytes ≡ false) × (reading bytes ≡ Ok read)
limited_read limit bytes read h =
    let p = limited_ok limit bytes (of_data (reading bytes)) read h in
    (p.0, data_read (reading bytes) read p.1)

-- a refusal of one step is that of the next one, with the limit as without it
pub limited_on : {X Y : Type 0} (limit : Option ℕ) (bytes : List ℕ) (e : Error)
    (x : Result X Cause) (y : Result Y Cause)
    → Fails e (limited limit bytes x) → ((c : Cause) → x ≡ Err c → y ≡ Err c)
    → Fails e (limited limit bytes y)
limited_on {X = X} {Y = Y} limit bytes e x y h f = by_test (exceeds limit bytes) h
  where
    err_same : (a b : Cause) → ◌≡◌ {A = Result X Cause} (Err a) (Err b) → a ≡ b
    err_same a b q = cc

    by_test : (b : Bool) → Fails e (unless b (wrong_header TooManyEntries) >>= λ u. x)
        → Fails e (unless b (wrong_header TooManyEntries) >>= λ u. y)
    by_test false h = refused_on e x y h f
    by_test true h =
        refused_on e (Err (wrong_header TooManyEntries)) (Err (wrong_header TooManyEntries)) h
        (λ c q. ap (λ w. Err w) (err_same (wrong_header TooManyEntries) c q))

-- where reading stops, it is refused with the error that the stop becomes
pub stop_refused : (s : Stop) (bytes : List ℕ) (e : Error) → ReadsTo (Err s) (reading bytes)
    → Becomes s e → Fails e (of_data (reading bytes))
stop_refused stop.OutOfMemory bytes e h b = rw b refl
stop_refused (stop.Fault fault) bytes e h b = rw (b, h) refl

-- a refusal of the limit is one of what comes behind it
pub limit_refused : {Y : Type 0} (limit : Option ℕ) (bytes : List ℕ) (e : Error)
    (y : Result Y Cause)
    → Fails e (within_limit limit bytes) → Fails e (limited limit bytes y)
limit_refused {Y = Y} limit bytes e y h =
    refused_on e (within_limit limit bytes) (limited limit bytes y) h (λ r q. rw q refl)

-- data that a limit does not refuse do not exceed it
pub limit_kept : (limit : Option ℕ) (bytes : List ℕ) (u : Unit {0})
    → within_limit limit bytes ≡ Ok u → exceeds limit bytes ≡ false
limit_kept limit bytes u h =
    (passed (exceeds limit bytes) (wrong_header TooManyEntries) (λ x. Ok u) u
    (ap (λ (r : Result (Unit {0}) Cause). r >>= λ x. Ok u) h)).0
