-- Files of which no field is read.
use Rattle.std.proofs.Common.{◌≡◌, ◌∙◌, ◌<◌, ◌≤◌, ℕ, true, false, Bool, List, [], ◌∷◌, ◌++◌, Some, None, Result, Ok, Err, refl, sym, ap, subst, arith}
use Rattle.std.specs.Prelude.{nat_le}
use Rattle.std.proofs.lemmas.Bool.{false≢true}
use Rattle.std.proofs.lemmas.Bool.Decides.{nat_tests}
use Rattle.exif_base.specs.Orders.{number_of}
use Rattle.exif_base.specs.declared.endian.Order.{Order}
use Rattle.exif_types.specs.Refusals as types
use Rattle.exif_types.specs.Refusals.{Refusal, invalid_format, not_found, blank_value, too_big, not_supported, unexpected_value}
use Rattle.exif_types.specs.declared.field.Field.{Field}
use Rattle.exif_tiff.specs.Answers.{Refused, Whole, raw_answer, shown}
use Rattle.exif_tiff.specs.Limits.{AnswersWithin, IsCutPast, LenientAnswersCut}
use Rattle.exif_tiff.specs.Trace.{Found, Met, Node, Opens, Visit, faults_of, fields_of, header, ordered_trace, trace, visits_of}
use Rattle.exif_tiff.specs.declared.fault.Fault.{Fault}
use Rattle.exif_tiff.proofs.TiffAnswers.{raw_right, trace_right}
use Rattle.exif_edit_base.proofs.ReadSteps.{is_refused, not_refused, unshown, unshown_shown}
use Rattle.exif_change.specs.Reading.{data_contents, fields_in, without_fault}
use Rattle.exif_change_laws.specs.Scrubbed.{HasNoField}

-- ---- no field under a limit where there is none without one

front_none : (ns ms : List Node) → fields_of (ns ++ ms) ≡ [] → fields_of ns ≡ []
front_none [] ms h = refl
front_none (Opens d ∷ ns) ms h = front_none ns ms h
front_none (Visit ∷ ns) ms h = front_none ns ms h
front_none (Found l ∷ ns) ms h = absurd (some_none h)
  where
    some_none : {x : Field} {xs : List Field} → x ∷ xs ≡ [] → ⊥
    some_none e = cc
front_none (Met fault ∷ ns) ms h = front_none ns ms h

header_refused : (bytes : List ℕ) (fault : Fault) → header bytes ≡ Err fault → raw_answer true None bytes ≡ Refused fault
unfolding raw_answer
header_refused bytes fault h = rw (h, raw_answer) refl

-- data that are read have an order, and hold what is read
read_holds : (bytes : List ℕ) (fields : List Field) (faults : List Fault) → raw_answer true None bytes ≡ shown fields faults
    → (order : Order) × (header bytes ≡ Ok order) × (fields_of (trace bytes) ≡ fields)
read_holds bytes fields faults e = by_header (header bytes) refl
  where
    by_header : (x : Result Order Fault) → header bytes ≡ x → (order : Order) × (header bytes ≡ Ok order) × (fields_of (trace bytes) ≡ fields)
    by_header (Err fault) h = absurd (false≢true (sym (not_refused fields faults) ∙ (sym (ap is_refused e) ∙ ap is_refused (header_refused bytes fault h))))
    by_header (Ok order) h =
        let nodes = ordered_trace (number_of order) bytes in
        let same = sym (unshown_shown (fields_of nodes) (faults_of nodes)) ∙ (ap unshown (sym (raw_right true None bytes order h) ∙ e) ∙ unshown_shown fields faults) in
        (order, h, ap fields_of (trace_right bytes order h) ∙ ap (λ (p : List Field × List Fault). p.0) same)

none_limited : (n : ℕ) (bytes : List ℕ) → AnswersWithin n bytes → IsCutPast n (trace bytes) → LenientAnswersCut n bytes
    → raw_answer true None bytes ≡ Whole [] → fields_in (raw_answer true (Some n) bytes) ≡ Ok []
none_limited n bytes within past cut e = by_test (nat_le (visits_of (trace bytes)) n) refl
  where
    by_test : (b : Bool) → nat_le (visits_of (trace bytes)) n ≡ b → fields_in (raw_answer true (Some n) bytes) ≡ Ok []
    by_test true h = let few : visits_of (trace bytes) ≤ n = grind (arith, nat_tests, h) in ap fields_in (within true few ∙ e)
    by_test false h =
        let many : n < visits_of (trace bytes) = grind (arith, nat_tests, h) in
        let c = past many in
        let none : fields_of (trace bytes) ≡ [] = (read_holds bytes [] [] e).2 in
        let front = front_none c.front (Visit ∷ c.rest) (ap fields_of (sym c.whole) ∙ none) in
        ap fields_in (cut c) ∙ ap (λ (fs : List Field). let r : Result (List Field) Refusal = Ok fs in r) front

-- the same of what is read before a change
pub none_in_data : (bytes : List ℕ) → ((n : ℕ) → AnswersWithin n bytes) → ((n : ℕ) → IsCutPast n (trace bytes)) → ((n : ℕ) → LenientAnswersCut n bytes)
    → raw_answer true None bytes ≡ Whole [] → HasNoField (data_contents bytes)
unfolding data_contents
none_in_data bytes within past cut e =
    let held = read_holds bytes [] [] e in
    let limited = none_limited 1000000 bytes (within 1000000) (past 1000000) (cut 1000000) e in
    let all : data_contents bytes ≡ Ok (record { bytes = bytes; order = held.0; fields = [] }) =
    ap (λ (r : Result (List Field) Refusal). types.◌>>=◌ r (λ fs. types.◌>>=◌ (without_fault (header bytes)) (λ order. Ok (record { bytes = bytes; order = order; fields = fs })))) limited
    ∙ ap (λ (r : Result Order Fault). types.◌>>=◌ (without_fault r) (λ order. Ok (record { bytes = bytes; order = order; fields = [] }))) held.1 in
    subst HasNoField (sym all) refl
