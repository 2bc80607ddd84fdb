-- What can't be searched for locations can't have them erased, for the same reason.
use Rattle.std.proofs.Common.{◌≡◌, ℕ, zero, suc, Bool, true, false, cond, nat_eq, List, [], ◌∷◌, length, drop, Result, Ok, Err, ap}
use Rattle.exif_locations.specs.XmpErasing as xmp
use Rattle.exif_locations.specs.IptcDatasets as iptc
use Rattle.exif_locations.specs.IptcDatasets.{all_zero, dataset_at}
use Rattle.exif_locations.specs.XmpErasing.{may_end, step_at}
use Rattle.exif_locations.specs.declared.iptc.dataset.Dataset.{Dataset}
use Rattle.exif_locations.specs.declared.iptc.fault.Fault as iptc_fault
use Rattle.exif_locations.specs.declared.iptc.fault.Fault.TheVariants as iptc_faults
use Rattle.exif_locations.specs.declared.xmp.fault.Fault as xmp_fault
use Rattle.exif_locations.specs.declared.xmp.fault.Fault.TheVariants as xmp_faults
use Rattle.exif_locations.specs.declared.xmp.step.State.{State}
use Rattle.exif_locations.specs.declared.xmp.step.Step.{Step}

-- the same error, of another result
err_same : {A B F : Type 0} {x y : F} → ◌≡◌ {A = Result A F} (Err x) (Err y) → ◌≡◌ {A = Result B F} (Err x) (Err y)
err_same e = ap Err (fault_same e)
  where
    fault_same : {A F : Type 0} {x y : F} → ◌≡◌ {A = Result A F} (Err x) (Err y) → x ≡ y
    fault_same e = cc

no_error : {A F : Type 0} {x : A} {f : F} → ◌≡◌ {A = Result A F} (Ok x) (Err f) → ⊥
no_error e = cc

cond_same : {A B F : Type 0} (b : Bool) (x : A) (y : B) (g f : F) → cond b (Ok x) (Err g) ≡ Err f → cond b (Ok y) (Err g) ≡ Err f
cond_same true x y g f e = absurd (no_error e)
cond_same false x y g f e = err_same e

xmp_either : (b : Bool) (r : Result Bool xmp_fault.Fault) (f : xmp_fault.Fault) → xmp.either b r ≡ Err f → r ≡ Err f
xmp_either b (Ok more) f e = absurd (no_error e)
xmp_either b (Err g) f e = e

xmp_step : (r : Result Step xmp_fault.Fault) (next : Step → Result Bool xmp_fault.Fault) (chunk : Step → List ℕ) (more : Step → Result (List ℕ) xmp_fault.Fault) (f : xmp_fault.Fault)
    → ((t : Step) → next t ≡ Err f → more t ≡ Err f)
    → xmp.◌>>=◌ r (λ t. xmp.either t.blank (next t)) ≡ Err f → xmp.◌>>=◌ r (λ t. xmp.behind (chunk t) (more t)) ≡ Err f
xmp_step (Ok t) next chunk more f same e = ap (xmp.behind (chunk t)) (same t (xmp_either t.blank (next t) f e))
xmp_step (Err g) next chunk more f same e = err_same e

xmp_refused_by : (n : ℕ) (s : State) (bytes : List ℕ) (f : xmp_fault.Fault) → xmp.found_by n s bytes ≡ Err f → xmp.erased_by n s bytes ≡ Err f
unfolding xmp.found_by xmp.erased_by
xmp_refused_by zero s [] f e = cond_same (may_end s) false [] xmp_faults.Cut f e
xmp_refused_by (suc n) s [] f e = cond_same (may_end s) false [] xmp_faults.Cut f e
xmp_refused_by zero s (b ∷ bytes) f e = err_same e
xmp_refused_by (suc n) s (b ∷ bytes) f e =
    xmp_step (step_at s (b ∷ bytes)) (λ t. xmp.found_by n t.state (drop t.len (b ∷ bytes))) (λ t. xmp.chunk t (b ∷ bytes)) (λ t. xmp.erased_by n t.state (drop t.len (b ∷ bytes))) f
    (λ t h. xmp_refused_by n t.state (drop t.len (b ∷ bytes)) f h) e

iptc_either : (b : Bool) (r : Result Bool iptc_fault.Fault) (f : iptc_fault.Fault) → iptc.either b r ≡ Err f → r ≡ Err f
iptc_either b (Ok more) f e = absurd (no_error e)
iptc_either b (Err g) f e = e

iptc_step : (r : Result Dataset iptc_fault.Fault) (next : Dataset → Result Bool iptc_fault.Fault) (chunk : Dataset → List ℕ) (more : Dataset → Result (List ℕ) iptc_fault.Fault) (f : iptc_fault.Fault)
    → ((d : Dataset) → next d ≡ Err f → more d ≡ Err f)
    → iptc.◌>>=◌ r (λ d. iptc.either d.location (next d)) ≡ Err f → iptc.◌>>=◌ r (λ d. iptc.behind (chunk d) (more d)) ≡ Err f
iptc_step (Ok d) next chunk more f same e = ap (iptc.behind (chunk d)) (same d (iptc_either d.location (next d) f e))
iptc_step (Err g) next chunk more f same e = err_same e

iptc_test : (z : Bool) (w : Bool) (bytes : List ℕ) (r : Result Bool iptc_fault.Fault) (q : Result (List ℕ) iptc_fault.Fault) (f : iptc_fault.Fault)
    → (r ≡ Err f → q ≡ Err f) → cond z (cond w (Ok false) (Err iptc_faults.NoDataset)) r ≡ Err f
    → cond z (cond w (Ok bytes) (Err iptc_faults.NoDataset)) q ≡ Err f
iptc_test true w bytes r q f same e = cond_same w false bytes iptc_faults.NoDataset f e
iptc_test false w bytes r q f same e = same e

iptc_refused_by : (n : ℕ) (bytes : List ℕ) (f : iptc_fault.Fault) → iptc.found_by n bytes ≡ Err f → iptc.erased_by n bytes ≡ Err f
unfolding iptc.found_by iptc.erased_by
iptc_refused_by zero [] f e = absurd (no_error e)
iptc_refused_by (suc n) [] f e = absurd (no_error e)
iptc_refused_by zero (b ∷ bytes) f e = err_same e
iptc_refused_by (suc n) (b ∷ bytes) f e =
    iptc_test (nat_eq b 0) (all_zero (b ∷ bytes)) (b ∷ bytes) _ _ f
    (iptc_step (dataset_at (b ∷ bytes)) (λ d. iptc.found_by n (drop d.len (b ∷ bytes))) (λ d. iptc.chunk d (b ∷ bytes)) (λ d. iptc.erased_by n (drop d.len (b ∷ bytes))) f
    (λ d h. iptc_refused_by n (drop d.len (b ∷ bytes)) f h)) e

-- an XMP packet that can't be read
pub xmp_refused : (bytes : List ℕ) (f : xmp_fault.Fault) → xmp.found bytes ≡ Err f → xmp.erased bytes ≡ Err f
xmp_refused bytes f e = xmp_refused_by (length bytes) xmp.at_start bytes f e

-- IPTC data that can't be read
pub iptc_refused : (bytes : List ℕ) (f : iptc_fault.Fault) → iptc.found bytes ≡ Err f → iptc.erased bytes ≡ Err f
iptc_refused bytes f e = iptc_refused_by (length bytes) bytes f e
