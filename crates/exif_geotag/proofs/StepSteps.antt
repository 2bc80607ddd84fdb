-- A step goes on as far as its token.
use Rattle.std.proofs.Common.{◌≡◌, ℕ, ◌<◌, ◌≤◌, Result, Ok, Err, arith}
use Rattle.std.specs.Prelude.{IfOk}
use Rattle.exif_geotag.specs.declared.error.TrackError.{TrackError}
use Rattle.exif_geotag.specs.declared.step.Step.{Step}

-- over one byte at least
pub goes_on : (r : Result Step TrackError) (n : ℕ) → IfOk r (λ t. t.len ≡ n) → 0 < n → IfOk r (λ t. 0 < t.len)
goes_on (Ok t) n e h = omega arith
goes_on (Err e) n h k = tt

-- and no further than the input
pub goes_within : (r : Result Step TrackError) (n m : ℕ) → IfOk r (λ t. t.len ≡ n) → n ≤ m → IfOk r (λ t. t.len ≤ m)
goes_within (Ok t) n m e h = omega arith
goes_within (Err e) n m h k = tt
