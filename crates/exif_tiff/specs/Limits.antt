-- What a limit on the visited entries does to a reading.
use Rattle.std.specs.Prelude.{ℕ, ◌≡◌, ◌≤◌, ◌<◌, ◌↔◌, min, Bool, true, false, List, [], ◌∷◌, ◌++◌, Some, None}
use Rattle.std.specs.List.{Contains}
use Rattle.exif_tiff.specs.declared.fault.Fault.TheVariants.{TooManyEntries}
use Rattle.exif_tiff.specs.Trace.{Node, Visit, Met, trace, visits_of, fields_of, faults_of, cut}
use Rattle.exif_tiff.specs.Answers.{Refused, Partial, raw_answer}

-- no more than n entries are visited
abbrev pub VisitsAreLimited : ℕ → List Node → Type 0
VisitsAreLimited n nodes = visits_of (cut n nodes) ≡ min n (visits_of nodes)

-- where there are no more, nothing changes
abbrev pub IsKeptWithin : ℕ → List Node → Type 0
IsKeptWithin n nodes = visits_of nodes ≤ n → cut n nodes ≡ nodes

-- what was before the visit after the first n is left, and behind it is the fault of the
-- limit alone
pub record IsCut (n : ℕ) (nodes : List Node) : Type 0 where
  pub front : List Node
  pub rest : List Node
  pub whole : nodes ≡ front ++ Visit ∷ rest
  pub visits : visits_of front ≡ n
  pub ended : cut n nodes ≡ front ++ Met TooManyEntries ∷ []

-- the same where there are more
abbrev pub IsCutPast : ℕ → List Node → Type 0
IsCutPast n nodes = n < visits_of nodes → IsCut n nodes

-- the fault of the limit comes exactly where the data have more entries to visit
abbrev pub LimitIsMet : ℕ → List ℕ → Type 0
LimitIsMet n bytes =
    Contains (faults_of (cut n (trace bytes))) TooManyEntries ↔ (n < visits_of (trace bytes))

-- within the limit the answer is that without one
abbrev pub AnswersWithin : ℕ → List ℕ → Type 0
AnswersWithin n bytes =
    (lenient : Bool) → visits_of (trace bytes) ≤ n
    → raw_answer lenient (Some n) bytes ≡ raw_answer lenient None bytes

-- past it lenient reading answers what was before the cut, and the fault of the limit behind the
-- faults
abbrev pub LenientAnswersCut : ℕ → List ℕ → Type 0
LenientAnswersCut n bytes =
    (found : IsCut n (trace bytes))
    → raw_answer true (Some n) bytes
    ≡ Partial (fields_of found.front) (faults_of found.front ++ TooManyEntries ∷ [])

-- strict reading refuses for the limit exactly where there are more entries and no fault is
-- before the cut
abbrev pub StrictRefusesCut : ℕ → List ℕ → Type 0
StrictRefusesCut n bytes =
    (raw_answer false (Some n) bytes ≡ Refused TooManyEntries)
    ↔ ((found : IsCut n (trace bytes)) × (faults_of found.front ≡ []))
