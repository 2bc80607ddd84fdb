-- A limit cuts a trace just before the first visit over it.
use Rattle.std.proofs.Common.{◌≡◌, ◌∙◌, ⊎_elim, ℕ, zero, suc, Bool, true, false, List, [], ◌∷◌, ◌++◌, Some, None, refl, sym, ap, subst, arith}
use Rattle.std.proofs.lemmas.Bool.{cases_lt}
use Rattle.std.proofs.lemmas.List.{append-nil}
use Rattle.std.proofs.lemmas.List.Elements.{All-contains, Contains-push}
use Rattle.std.specs.List.{AllByRecursion, Contains}
use Rattle.exif_types.specs.declared.field.Field.{Field}
use Rattle.exif_tiff.specs.declared.fault.Fault.{Fault}
use Rattle.exif_tiff.specs.declared.fault.Fault.TheVariants.{TooManyEntries}
use Rattle.exif_tiff.specs.Trace.{Node, Visit, Found, Met, visits_of, fields_of, faults_of, cut, content_of, trace, Opens}
use Rattle.exif_tiff.specs.Answers.{Refused, Partial, answer_of, raw_answer}
use Rattle.exif_tiff.specs.Limits.{VisitsAreLimited, IsKeptWithin, IsCut, IsCutPast, LimitIsMet, AnswersWithin, LenientAnswersCut, StrictRefusesCut}
use Rattle.exif_tiff.specs.SoftFaults.{is_soft, is_hard}
use Rattle.exif_tiff.proofs.ReportBound.{fields-append, faults-append}
use Rattle.exif_tiff.proofs.Members.{all_left}
use Rattle.exif_tiff.proofs.SoftFaults.{each_soft, faults_soft, answer_behind, answer_refused, trace_refused, headers, header_faults_hard}

-- a limit of n lets the first n entries be visited, or all where there are fewer
pub visits_limited : (n : ℕ) (nodes : List Node) → VisitsAreLimited n nodes
visits_limited n [] = omega arith
visits_limited n (Opens directory ∷ nodes) = visits_limited n nodes
visits_limited zero (Visit ∷ nodes) = omega arith
visits_limited (suc n) (Visit ∷ nodes) = let e = visits_limited n nodes in omega arith
visits_limited n (Found l ∷ nodes) = visits_limited n nodes
visits_limited n (Met fault ∷ nodes) = visits_limited n nodes

-- a trace with no more visits than the limit is left as it is
pub kept_within : (n : ℕ) (nodes : List Node) → IsKeptWithin n nodes
kept_within n [] h = refl
kept_within n (Opens directory ∷ nodes) h = ap (λ r. Opens directory ∷ r) (kept_within n nodes h)
kept_within zero (Visit ∷ nodes) h = absurd (omega arith)
kept_within (suc n) (Visit ∷ nodes) h = ap (λ r. Visit ∷ r) (kept_within n nodes (omega arith))
kept_within n (Found l ∷ nodes) h = ap (λ r. Found l ∷ r) (kept_within n nodes h)
kept_within n (Met fault ∷ nodes) h = ap (λ r. Met fault ∷ r) (kept_within n nodes h)

-- a trace with more visits is cut before the one over the limit, and ends with its fault
pub cut_past : (n : ℕ) (nodes : List Node) → IsCutPast n nodes
cut_past n [] h = absurd (omega arith)
cut_past n (Opens directory ∷ nodes) h =
    let c = cut_past n nodes h in
    record { front = Opens directory ∷ c.front; rest = c.rest; whole = ap (λ r. Opens directory ∷ r) c.whole; visits = c.visits; ended = ap (λ r. Opens directory ∷ r) c.ended }
cut_past zero (Visit ∷ nodes) h = record { front = []; rest = nodes; whole = refl; visits = refl; ended = refl }
cut_past (suc n) (Visit ∷ nodes) h =
    let c = cut_past n nodes (omega arith) in
    let v = c.visits in
    record { front = Visit ∷ c.front; rest = c.rest; whole = ap (λ r. Visit ∷ r) c.whole; visits = omega arith; ended = ap (λ r. Visit ∷ r) c.ended }
cut_past n (Found l ∷ nodes) h =
    let c = cut_past n nodes h in
    record { front = Found l ∷ c.front; rest = c.rest; whole = ap (λ r. Found l ∷ r) c.whole; visits = c.visits; ended = ap (λ r. Found l ∷ r) c.ended }
cut_past n (Met fault ∷ nodes) h =
    let c = cut_past n nodes h in
    record { front = Met fault ∷ c.front; rest = c.rest; whole = ap (λ r. Met fault ∷ r) c.whole; visits = c.visits; ended = ap (λ r. Met fault ∷ r) c.ended }

cut_faults : (n : ℕ) (nodes : List Node) (c : IsCut n nodes) → faults_of (cut n nodes) ≡ faults_of c.front ++ TooManyEntries ∷ []
cut_faults n nodes c = ap faults_of c.ended ∙ faults-append c.front (Met TooManyEntries ∷ [])

cut_fields : (n : ℕ) (nodes : List Node) (c : IsCut n nodes) → fields_of (cut n nodes) ≡ fields_of c.front ++ []
cut_fields n nodes c = ap fields_of c.ended ∙ fields-append c.front (Met TooManyEntries ∷ [])

-- the fault of a limit is found exactly where the data have more entries to visit
pub limit_met : (n : ℕ) (bytes : List ℕ) → LimitIsMet n bytes
limit_met n bytes = (
  λ met. ⊎_elim
      (λ high. high)
      (λ low. (let same : cut n (trace bytes) ≡ trace bytes = kept_within n (trace bytes) low in
      let there : Contains (faults_of (trace bytes)) TooManyEntries = subst (λ (nodes : List Node). Contains (faults_of nodes) TooManyEntries) same met in
      let soft : is_soft TooManyEntries ≡ true = All-contains (λ fault. is_soft fault ≡ true) (faults_of (trace bytes)) TooManyEntries (faults_soft bytes) there in
      absurd cc))
      (cases_lt n (visits_of (trace bytes))),
  λ high. (let c = cut_past n (trace bytes) high in
      subst (λ (faults : List Fault). Contains faults TooManyEntries) (sym (cut_faults n (trace bytes) c)) (Contains-push (faults_of c.front) TooManyEntries)),
)

-- where the data have no more entries to visit than the limit, it changes no answer
pub answers_within : (n : ℕ) (bytes : List ℕ) → AnswersWithin n bytes
answers_within n bytes lenient h =
    ⊎_elim
    (λ refused. answer_refused lenient (Some n) bytes refused.0 refused.1 ∙ sym (answer_refused lenient None bytes refused.0 refused.1))
    (λ good. answer_behind lenient (Some n) bytes good.0 good.1
    ∙ ap (λ nodes. answer_of lenient (content_of nodes)) (kept_within n (trace bytes) h)
    ∙ sym (answer_behind lenient None bytes good.0 good.1))
    (headers bytes)

-- data that are cut have a good header
no_cut : (n : ℕ) (front rest : List Node) → [] ≡ front ++ Visit ∷ rest → ⊥
no_cut n [] rest e = absurd cc
no_cut n (node ∷ front) rest e = absurd cc

-- the answers to what was cut
lenient_partial : (fields : List Field) (faults : List Fault) → answer_of true (record { fields = fields; faults = faults ++ TooManyEntries ∷ [] }) ≡ Partial fields (faults ++ TooManyEntries ∷ [])
lenient_partial fields [] = refl
lenient_partial fields (fault ∷ faults) = refl

cut_answer : (n : ℕ) (bytes : List ℕ) (lenient : Bool) (c : IsCut n (trace bytes))
    → raw_answer lenient (Some n) bytes ≡ answer_of lenient (record { fields = fields_of c.front; faults = faults_of c.front ++ TooManyEntries ∷ [] })
cut_answer n bytes lenient c =
    ⊎_elim
    (λ refused. absurd (no_cut n c.front c.rest (sym (trace_refused bytes refused.0 refused.1) ∙ c.whole)))
    (λ good. answer_behind lenient (Some n) bytes good.0 good.1
    ∙ (λ i. answer_of lenient (record { fields = (cut_fields n (trace bytes) c ∙ append-nil (fields_of c.front)) i; faults = cut_faults n (trace bytes) c i })))
    (headers bytes)

-- past the limit lenient reading gives what was before the cut, then the limit's fault
pub lenient_answers_cut : (n : ℕ) (bytes : List ℕ) → LenientAnswersCut n bytes
lenient_answers_cut n bytes c = cut_answer n bytes true c ∙ lenient_partial (fields_of c.front) (faults_of c.front)

-- strict reading refuses for the limit where that is the first fault
first_is : (fields : List Field) (faults : List Fault) → answer_of false (record { fields = fields; faults = faults }) ≡ Refused TooManyEntries
    → AllByRecursion (λ fault. is_soft fault ≡ true) faults → ⊥
first_is fields [] e soft = absurd cc
first_is fields (fault ∷ faults) e soft =
    let same : fault ≡ TooManyEntries = cc in
    let wrong : is_soft TooManyEntries ≡ true = ap is_soft (sym same) ∙ soft.0 in
    absurd cc

none_before : (fields : List Field) (faults : List Fault) → answer_of false (record { fields = fields; faults = faults ++ TooManyEntries ∷ [] }) ≡ Refused TooManyEntries
    → AllByRecursion (λ fault. is_soft fault ≡ true) faults → faults ≡ []
none_before fields [] e soft = refl
none_before fields (fault ∷ faults) e soft =
    let same : fault ≡ TooManyEntries = cc in
    let wrong : is_soft TooManyEntries ≡ true = ap is_soft (sym same) ∙ soft.0 in
    absurd cc

front_soft : (n : ℕ) (bytes : List ℕ) (c : IsCut n (trace bytes)) → AllByRecursion (λ fault. is_soft fault ≡ true) (faults_of c.front)
front_soft n bytes c =
    all_left (λ fault. is_soft fault ≡ true) (faults_of c.front) (faults_of (Visit ∷ c.rest))
    (subst (AllByRecursion (λ fault. is_soft fault ≡ true)) (ap faults_of c.whole ∙ faults-append c.front (Visit ∷ c.rest)) (each_soft bytes))

-- strict reading refuses for the limit exactly where it cuts and no fault is before that
pub strict_refuses_cut : (n : ℕ) (bytes : List ℕ) → StrictRefusesCut n bytes
strict_refuses_cut n bytes = (
  λ e. ⊎_elim
      (λ refused. (let k = answer_refused false (Some n) bytes refused.0 refused.1 in
      let same : refused.0 ≡ TooManyEntries = cc in
      let wrong : is_hard TooManyEntries ≡ true = ap is_hard (sym same) ∙ header_faults_hard bytes refused.0 refused.1 in
      absurd cc))
      (λ good. ⊎_elim
      (λ high. (let c = cut_past n (trace bytes) high in
      (c, none_before (fields_of c.front) (faults_of c.front) (sym (cut_answer n bytes false c) ∙ e) (front_soft n bytes c))))
      (λ low. absurd (first_is (fields_of (trace bytes)) (faults_of (trace bytes))
      (sym (answer_behind false None bytes good.0 good.1) ∙ sym (answers_within n bytes false low) ∙ e) (each_soft bytes)))
      (cases_lt n (visits_of (trace bytes))))
      (headers bytes),
  λ h. cut_answer n bytes false h.0 ∙ (λ i. answer_of false (record { fields = fields_of h.0.front; faults = h.1 i ++ TooManyEntries ∷ [] })),
)
