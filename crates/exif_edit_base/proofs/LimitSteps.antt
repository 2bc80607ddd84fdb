-- Reading under a limit shows whether the data have more entries.
use Rattle.std.proofs.Common.{◌≡◌, ◌≤◌, ◌<◌, ℕ, zero, suc, Bool, true, false, List, [], ◌∷◌, All, Some, refl, sym, ap, ◌∙◌, ⊎_elim, arith}
use Rattle.std.specs.Prelude.{nat_lt}
use Rattle.std.specs.List.{list_any}
use Rattle.std.proofs.lemmas.Bool.{false≢true, or_right}
use Rattle.std.proofs.lemmas.Bool.Decides.{nat_tests}
use Rattle.std.proofs.lemmas.List.Elements.{All-head, All-tail}
use Rattle.exif_types.specs.declared.field.Field.{Field}
use Rattle.exif_tiff.specs.Answers.{Refused, raw_answer, shown}
use Rattle.exif_tiff.specs.SoftFaults.{is_soft}
use Rattle.exif_tiff.specs.Trace.{Node, Found, Met, Opens, Visit, cut, faults_of, fields_of, trace, visits_of}
use Rattle.exif_tiff.specs.declared.fault.Fault.{Fault}
use Rattle.exif_tiff.specs.declared.fault.Fault.TheVariants.{TooManyEntries}
use Rattle.exif_tiff.proofs.Limits.{kept_within}
use Rattle.exif_tiff.proofs.SoftFaults.{answer_behind, answer_refused, faults_soft, headers, trace_refused}
use Rattle.exif_edit_base.specs.EntryLimit.{has_more, is_limit_fault}
use Rattle.exif_edit_base.proofs.ReadSteps.{is_refused, not_refused, unshown, unshown_shown}

-- a trace with more visits ends with the fault
past_met : (n : ℕ) (nodes : List Node) → n < visits_of nodes
    → list_any is_limit_fault (faults_of (cut n nodes)) ≡ true
past_met n [] h = absurd (omega arith)
past_met n (Opens directory ∷ nodes) h = past_met n nodes h
past_met zero (Visit ∷ nodes) h = refl
past_met (suc n) (Visit ∷ nodes) h = past_met n nodes (omega arith)
past_met n (Found l ∷ nodes) h = past_met n nodes h
past_met n (Met fault ∷ nodes) h =
    or_right (is_limit_fault fault) (list_any is_limit_fault (faults_of (cut n nodes)))
    (past_met n nodes h)

-- a fault of the data is none of a limit
soft_unlimited : (fault : Fault) → is_soft fault ≡ true → is_limit_fault fault ≡ false
soft_unlimited TooManyEntries h = absurd (false≢true h)
soft_unlimited _ h = refl

all_unlimited : (faults : List Fault) → All (λ fault. is_soft fault ≡ true) faults
    → list_any is_limit_fault faults ≡ false
all_unlimited [] h = refl
all_unlimited (fault ∷ faults) h =
    let a = soft_unlimited fault (All-head (λ f. is_soft f ≡ true) fault faults h) in
    let b = all_unlimited faults (All-tail (λ f. is_soft f ≡ true) fault faults h) in
    rw (a, b) refl

-- the fault is found exactly where the data have more entries
cut_tells : (n : ℕ) (bytes : List ℕ)
    → list_any is_limit_fault (faults_of (cut n (trace bytes))) ≡ has_more n bytes
cut_tells n bytes = by_test (nat_lt n (visits_of (trace bytes))) refl
  where
    by_test : (b : Bool) → nat_lt n (visits_of (trace bytes)) ≡ b
        → list_any is_limit_fault (faults_of (cut n (trace bytes))) ≡ b
    by_test true h = past_met n (trace bytes) (grind (arith, nat_tests))
    by_test false h =
        let low : visits_of (trace bytes) ≤ n = grind (arith, nat_tests) in
        ap (λ nodes. list_any is_limit_fault (faults_of nodes)) (kept_within n (trace bytes) low)
        ∙ all_unlimited (faults_of (trace bytes)) (faults_soft bytes)

-- the faults of an answer under a limit show it
pub answer_tells : (n : ℕ) (bytes : List ℕ) (fields : List Field) (faults : List Fault)
    → raw_answer true (Some n) bytes ≡ shown fields faults
    → list_any is_limit_fault faults ≡ has_more n bytes
answer_tells n bytes fields faults h =
    ⊎_elim
    (λ refused. absurd (false≢true (sym (not_refused fields faults)
    ∙ ap is_refused (sym h ∙ answer_refused true (Some n) bytes refused.0 refused.1))))
    (λ good. ap (λ (x : List Field × List Fault). list_any is_limit_fault x.1)
    (sym (unshown_shown fields faults)
    ∙ (ap unshown (sym h ∙ answer_behind true (Some n) bytes good.0 good.1)
    ∙ unshown_shown (fields_of (cut n (trace bytes))) (faults_of (cut n (trace bytes)))))
    ∙ cut_tells n bytes)
    (headers bytes)

-- data that are refused have none
pub refusal_tells : (n : ℕ) (bytes : List ℕ) (fault : Fault)
    → raw_answer true (Some n) bytes ≡ Refused fault → false ≡ has_more n bytes
refusal_tells n bytes fault h =
    ⊎_elim
    (λ refused. (let e = trace_refused bytes refused.0 refused.1 in
    let none : nat_lt n 0 ≡ false = grind (arith, nat_tests) in
    sym (ap (λ nodes. nat_lt n (visits_of nodes)) e ∙ none)))
    (λ good. absurd (false≢true
    (sym (not_refused (fields_of (cut n (trace bytes))) (faults_of (cut n (trace bytes))))
    ∙ ap is_refused (sym (answer_behind true (Some n) bytes good.0 good.1) ∙ h))))
    (headers bytes)
