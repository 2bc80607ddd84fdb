-- Scans, dataset by dataset, as a loop makes them.
use Rattle.std.proofs.Common.{◌≡◌, ℕ, suc, ◌+◌, ◌-◌, ◌<◌, ◌≤◌, List, [], ◌∷◌, ◌++◌, length, take, drop, Option, Some, None, Result, Ok, Err, ap, sym, ◌∙◌, arith, length-drop}
use Rattle.std.proofs.lemmas.List.{drop-drop, take_rest}
use Rattle.exif_iptc.specs.declared.dataset.Dataset.{Dataset}
use Rattle.exif_iptc.specs.declared.fault.Fault.{Fault}
use Rattle.exif_iptc.specs.declared.header.Header.{Header}
use Rattle.exif_iptc.specs.Datasets.{IsWithin, ScanOutcome, after, next_at, placed, scan_by}

-- the rest of the data, as a slice has it
pub from_here : (p : List ℕ) (i : ℕ) (r : Result (Option Header) Fault) → next_at (take (length p - i) (drop i p)) ≡ r → next_at (drop i p) ≡ r
from_here p i r e = ap next_at (sym (take_rest p i)) ∙ e

pub next_within : (p : List ℕ) (i : ℕ) (h : Header) → i ≤ length p → IsWithin (take (length p - i) (drop i p)) h → i + h.len ≤ length p
next_within p i h l w =
    let a : h.len ≤ length (drop i p) = omega (arith, w.whole, ap length (take_rest p i)) in
    omega (arith, length-drop i p)

one_left : (n i : ℕ) → i < n → n - i ≡ suc (n - (i + 1))
one_left n i h = omega arith

-- one step of a scan
step : (n i offset : ℕ) (found : List Dataset) (left : List ℕ) (total : ScanOutcome) → i < n → scan_by (n - i) offset found left ≡ total
    → after offset found (λ h. scan_by (n - (i + 1)) (offset + h.len) (found ++ placed offset h ∷ []) (drop h.len left)) (next_at left) ≡ total
unfolding scan_by
step n i offset found left total h w = ap (λ k. scan_by k offset found left) (sym (one_left n i h)) ∙ w

behind : ℕ → ℕ → ℕ → List Dataset → List ℕ → Header → ScanOutcome
behind n i offset found left h = scan_by (n - (i + 1)) (offset + h.len) (found ++ placed offset h ∷ []) (drop h.len left)

-- a scan ends where nothing or only zeros are left
pub scan_ends : (n i offset : ℕ) (found : List Dataset) (left : List ℕ) (total : ScanOutcome) → i < n → next_at left ≡ Ok None → scan_by (n - i) offset found left ≡ total
    → (record { datasets = found; refusal = None }) ≡ total
unfolding behind
scan_ends n i offset found left total h e w = sym (ap (after offset found (behind n i offset found left)) e) ∙ step n i offset found left total h w

-- and where the data are refused
pub scan_refused : (n i offset : ℕ) (found : List Dataset) (left : List ℕ) (f : Fault) (total : ScanOutcome) → i < n → next_at left ≡ Err f → scan_by (n - i) offset found left ≡ total
    → (record { datasets = found; refusal = Some (record { fault = f; offset = offset }) }) ≡ total
unfolding behind
scan_refused n i offset found left f total h e w = sym (ap (after offset found (behind n i offset found left)) e) ∙ step n i offset found left total h w

-- it goes on behind a dataset
pub scan_goes_on : (n i offset : ℕ) (found : List Dataset) (p : List ℕ) (h : Header) (total : ScanOutcome) → i < n → next_at (drop offset p) ≡ Ok (Some h) → scan_by (n - i) offset found (drop offset p) ≡ total
    → scan_by (n - (i + 1)) (offset + h.len) (found ++ placed offset h ∷ []) (drop (offset + h.len) p) ≡ total
unfolding behind
scan_goes_on n i offset found p h total l e w =
    let one : behind n i offset found (drop offset p) h ≡ total = sym (ap (after offset found (behind n i offset found (drop offset p))) e) ∙ step n i offset found (drop offset p) total l w in
    ap (scan_by (n - (i + 1)) (offset + h.len) (found ++ placed offset h ∷ [])) (sym (drop-drop h.len offset p)) ∙ one

-- a scan of no more datasets
pub scan_over : (n i offset : ℕ) (found : List Dataset) (left : List ℕ) (total : ScanOutcome) → n ≤ i → scan_by (n - i) offset found left ≡ total
    → (record { datasets = found; refusal = None }) ≡ total
unfolding scan_by
scan_over n i offset found left total h w =
    let e : n - i ≡ 0 = omega arith in
    ap (λ k. scan_by k offset found left) (sym e) ∙ w
