-- What running along a trace answers is what the trace says.
use Rattle.std.proofs.Common.{◌≡◌, ℕ, zero, suc, Bool, true, false, List, [], ◌∷◌, ◌++◌, Option, Some, None, refl, sym, ap, ◌∙◌, append_assoc}
use Rattle.std.proofs.lemmas.List.{append-nil}
use Rattle.exif_tiff.specs.Trace.{Located, Node, Opens, Visit, Found, Met, entry_of, fields_of, faults_of, content_of, cut}
use Rattle.exif_tiff.specs.Answers.{Answer, Refused, answer_of}
use Rattle.exif_tiff.specs.Noted.{Noted, directory_noted, entry_noted}
use Rattle.exif_tiff.specs.Running.{Progress, on_met, run, outcome}
use Rattle.exif_types.specs.declared.field.Field.{Field}
use Rattle.exif_tiff.specs.declared.fault.Fault.{Fault}

-- a parser with what it has read
abbrev pub at_work : Bool → ℕ → List Field → List Fault → Noted → Progress
at_work lenient left fields faults offsets = record { lenient = lenient; left = left; fields = fields; faults = faults; offsets = offsets }

-- what was read before a trace, and what the trace adds
abbrev added : Bool → List Field → List Fault → List Node → Answer
added lenient fields faults nodes = answer_of lenient (record { fields = fields ++ fields_of nodes; faults = faults ++ faults_of nodes })

added_found : (lenient : Bool) (fields : List Field) (faults : List Fault) (l : Located) (nodes : List Node) → added lenient (fields ++ l.field ∷ []) faults nodes ≡ added lenient fields faults (Found l ∷ nodes)
added_found lenient fields faults l nodes = rw append_assoc refl

added_met : (lenient : Bool) (fields : List Field) (faults : List Fault) (fault : Fault) (nodes : List Node) → added lenient fields (faults ++ fault ∷ []) nodes ≡ added lenient fields faults (Met fault ∷ nodes)
added_met lenient fields faults fault nodes = rw append_assoc refl

-- lenient running answers what was read before, and then the trace up to its limit
pub outcome_lenient : (nodes : List Node) (left : ℕ) (fields : List Field) (faults : List Fault) (offsets : Noted) → outcome (run nodes (at_work true left fields faults offsets)) ≡ added true fields faults (cut left nodes)
outcome_lenient [] left fields faults offsets = rw (append-nil, append-nil) refl
outcome_lenient (Opens directory ∷ nodes) left fields faults offsets = outcome_lenient nodes left fields faults (directory_noted offsets directory)
outcome_lenient (Visit ∷ nodes) zero fields faults offsets = rw append-nil refl
outcome_lenient (Visit ∷ nodes) (suc n) fields faults offsets = outcome_lenient nodes n fields faults offsets
outcome_lenient (Found l ∷ nodes) left fields faults offsets = outcome_lenient nodes left (fields ++ l.field ∷ []) faults (entry_noted offsets (entry_of l)) ∙ added_found true fields faults l (cut left nodes)
outcome_lenient (Met fault ∷ nodes) left fields faults offsets = outcome_lenient nodes left fields (faults ++ fault ∷ []) offsets ∙ added_met true fields faults fault (cut left nodes)

-- strict running without a fault so far answers the same, or the first fault up to the limit
pub outcome_strict : (nodes : List Node) (left : ℕ) (fields : List Field) (offsets : Noted) → outcome (run nodes (at_work false left fields [] offsets)) ≡ added false fields [] (cut left nodes)
outcome_strict [] left fields offsets = rw append-nil refl
outcome_strict (Opens directory ∷ nodes) left fields offsets = outcome_strict nodes left fields (directory_noted offsets directory)
outcome_strict (Visit ∷ nodes) zero fields offsets = refl
outcome_strict (Visit ∷ nodes) (suc n) fields offsets = outcome_strict nodes n fields offsets
outcome_strict (Found l ∷ nodes) left fields offsets = outcome_strict nodes left (fields ++ l.field ∷ []) (entry_noted offsets (entry_of l)) ∙ added_found false fields [] l (cut left nodes)
outcome_strict (Met fault ∷ nodes) left fields offsets = refl

-- from a parser that has read nothing, the answer is that of the trace up to its limit
pub outcome_run : (nodes : List Node) (lenient : Bool) (left : ℕ) (offsets : Noted) → outcome (run nodes (at_work lenient left [] [] offsets)) ≡ answer_of lenient (content_of (cut left nodes))
outcome_run nodes true left offsets = outcome_lenient nodes left [] [] offsets
outcome_run nodes false left offsets = outcome_strict nodes left [] offsets

-- a parser that stopped did not go on
pub stopped : (p q : Progress) (fault : Fault) → ◌≡◌ {A = Progress × Option Fault} (p, Some fault) (q, None) → ⊥
stopped p q fault e = let k : ◌≡◌ {A = Option Fault} (Some fault) None = ap (λ (x : Progress × Option Fault). x.1) e in cc

same_stop : (p q : Progress) (fault other : Fault) → ◌≡◌ {A = Progress × Option Fault} (p, Some fault) (q, Some other) → fault ≡ other
same_stop p q fault other e = let k : ◌≡◌ {A = Option Fault} (Some fault) (Some other) = ap (λ (x : Progress × Option Fault). x.1) e in cc

met_cases : (b : Bool) (left : ℕ) (fields : List Field) (faults : List Fault) (offsets : Noted) (q : Progress) (fault : Fault) → on_met (at_work b left fields faults offsets) fault ≡ (q, None) → outcome (at_work b left fields faults offsets, Some fault) ≡ outcome (q, None)
met_cases true left fields faults offsets q fault e = ap (λ (x : Progress × Option Fault). outcome x) e
met_cases false left fields faults offsets q fault e = absurd (stopped (at_work false left fields faults offsets) q fault e)

refused_cases : (b : Bool) (left : ℕ) (fields : List Field) (faults : List Fault) (offsets : Noted) (q : Progress) (fault other : Fault) → on_met (at_work b left fields faults offsets) fault ≡ (q, Some other) → outcome (at_work b left fields faults offsets, Some fault) ≡ Refused other
refused_cases true left fields faults offsets q fault other e = absurd (stopped q (at_work true left fields (faults ++ fault ∷ []) offsets) other (sym e))
refused_cases false left fields faults offsets q fault other e = ap (λ f. Refused f) (same_stop (at_work false left fields faults offsets) q fault other e)

-- a fault at which the parser stopped is noted, or refused
pub met_noted : (p q : Progress) (fault : Fault) → on_met p fault ≡ (q, None) → outcome (p, Some fault) ≡ outcome (q, None)
met_noted p q fault e = met_cases p.lenient p.left p.fields p.faults p.offsets q fault e

-- a fault that stops the parser is answered as a refusal
pub met_refused : (p q : Progress) (fault other : Fault) → on_met p fault ≡ (q, Some other) → outcome (p, Some fault) ≡ Refused other
met_refused p q fault other e = refused_cases p.lenient p.left p.fields p.faults p.offsets q fault other e
