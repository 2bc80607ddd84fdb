-- Steps that may be refused, one after another.
use Rattle.std.proofs.Common.{◌≡◌, Bool, true, false, Option, Some, None, Result, Ok, Err, refl, ap}
use Rattle.std.specs.Prelude.{MatchOption, if◌then◌else◌}
use Rattle.exif_tiff.specs.declared.fault.Fault.{Fault}
use Rattle.exif_types.specs.Refusals.{Refusal}
use Rattle.exif_edit_base.specs.Causes.{Cause, Fails, cause_of, of_container, of_data, unless, or_cause, wrong_header, no_data, ◌>>=◌}
use Rattle.exif_edit_base.specs.declared.error.Error.{Error}
use Rattle.exif_edit_base.specs.declared.error.Error.TheVariants as error

-- a step's refusal is that of the whole
pub refused_on : {X Y : Type 0} (e : Error) (x : Result X Cause) (y : Result Y Cause) → Fails e x
    → ((c : Cause) → x ≡ Err c → y ≡ Err c) → Fails e y
refused_on {X = X} {Y = Y} e x y h f = by_cause (cause_of e) h
  where
    by_cause : (o : Option Cause) → MatchOption o (e ≡ error.OutOfMemory) (λ c. x ≡ Err c)
        → MatchOption o (e ≡ error.OutOfMemory) (λ c. y ≡ Err c)
    by_cause None h = h
    by_cause (Some c) h = f c h

-- the parts of steps that came through
pub bound : {A B : Type 0} (x : Result A Cause) (f : A → Result B Cause) (b : B) → (x >>= f) ≡ Ok b
    → (a : A) × (x ≡ Ok a) × (f a ≡ Ok b)
bound (Ok a) f b e = (a, refl, e)
bound {B = B} (Err r) f b e = absurd (err_ok e)
  where
    err_ok : ◌≡◌ {A = Result B Cause} (Err r) (Ok b) → ⊥
    err_ok e = cc

-- a test that did not refuse
pub passed : {B : Type 0} (b : Bool) (c : Cause) (y : Unit {0} → Result B Cause) (out : B)
    → (unless b c >>= y) ≡ Ok out → (b ≡ false) × (y tt ≡ Ok out)
passed {B = B} true c y out e = absurd (err_ok e)
  where
    err_ok : ◌≡◌ {A = Result B Cause} (Err c) (Ok out) → ⊥
    err_ok e = cc
passed false c y out e = (refl, e)

-- where reading does not refuse a step, there was no fault, and the value is the one that was read
pub data_read : {A : Type 0} (x : Result A Fault) (a : A) → of_data x ≡ Ok a → x ≡ Ok a
data_read {A = A} (Ok y) a e = ap (λ z. Ok z) (ok_same e)
  where
    ok_same : ◌≡◌ {A = Result A Cause} (Ok y) (Ok a) → y ≡ a
    ok_same e = cc
data_read {A = A} (Err fault) a e = absurd (err_ok e)
  where
    err_ok : ◌≡◌ {A = Result A Cause} (Err (wrong_header fault)) (Ok a) → ⊥
    err_ok e = cc

-- where a container does not refuse a step, the value is the one that it held
pub data_held : {A : Type 0} (x : Result A Refusal) (a : A) → of_container x ≡ Ok a → x ≡ Ok a
data_held {A = A} (Ok y) a e = ap (λ z. Ok z) (ok_same e)
  where
    ok_same : ◌≡◌ {A = Result A Cause} (Ok y) (Ok a) → y ≡ a
    ok_same e = cc
data_held {A = A} (Err r) a e = absurd (err_ok e)
  where
    err_ok : ◌≡◌ {A = Result A Cause} (Err (no_data r)) (Ok a) → ⊥
    err_ok e = cc

-- a step that needs a value and was not refused has that value
pub option_told : {A : Type 0} (x : Option A) (c : Cause) (a : A) → or_cause x c ≡ Ok a → x ≡ Some a
option_told {A = A} (Some y) c a e = ap (λ z. Some z) (ok_same e)
  where
    ok_same : ◌≡◌ {A = Result A Cause} (Ok y) (Ok a) → y ≡ a
    ok_same e = cc
option_told {A = A} None c a e = absurd (err_ok e)
  where
    err_ok : ◌≡◌ {A = Result A Cause} (Err c) (Ok a) → ⊥
    err_ok e = cc

-- a test that was passed
pub tested : {A : Type 0} (b : Bool) (new out : A) (c : Cause)
    → (if b then Ok new else Err c) ≡ Ok out
    → (b ≡ true) × (new ≡ out)
tested {A = A} true new out c e = (refl, ok_same e)
  where
    ok_same : ◌≡◌ {A = Result A Cause} (Ok new) (Ok out) → new ≡ out
    ok_same e = cc
tested {A = A} false new out c e = absurd (err_ok e)
  where
    err_ok : ◌≡◌ {A = Result A Cause} (Err c) (Ok out) → ⊥
    err_ok e = cc

-- answers that were not refused are the same only if their values are
pub ok_same : {A : Type 0} (a b : A) → ◌≡◌ {A = Result A Cause} (Ok a) (Ok b) → a ≡ b
ok_same a b e = cc
