-- A parser's turns are the visits of the trace that it walked.
use Rattle.std.proofs.Common.{◌≡◌, ◌+◌, ◌∙◌, ℕ, zero, suc, Bool, true, false, List, [], ◌∷◌, ◌++◌, Option, Some, None, Result, Ok, Err, refl, ap, subst, arith}
use Rattle.std.proofs.lemmas.List.{append-nil}
use Rattle.exif_tiff.specs.Trace.{Node, Opens, Visit, Found, Met, entry_of, visits_of}
use Rattle.exif_tiff.specs.declared.fault.Fault.{Fault}
use Rattle.exif_types.specs.declared.field.Field.{Field}
use Rattle.exif_tiff.specs.Noted.{Noted, directory_noted, entry_noted}
use Rattle.exif_tiff.specs.Running.{Progress, run}
use Rattle.exif_tiff.specs.Stops.{Follows, CountsTurns}
use Rattle.exif_tiff.specs.declared.stop.Stop.{Stop}
use Rattle.exif_tiff.specs.declared.stop.Stop.TheVariants as stop

abbrev at_work : Bool → ℕ → List Field → List Fault → Noted → Progress
at_work lenient left fields faults offsets = record { lenient = lenient; left = left; fields = fields; faults = faults; offsets = offsets }

-- what was walked of a trace when a run ended or stopped
record Walked (nodes : List Node) (left : ℕ) (x : Progress × Option Fault) : Type 0 where
  walked : List Node
  rest : List Node
  front : nodes ≡ walked ++ rest
  turns : x.0.left + visits_of walked ≡ left
  whole : x.1 ≡ None → rest ≡ []

-- one node more in front
one_more : (node : Node) (nodes : List Node) (left more : ℕ) (x : Progress × Option Fault) → ((walked : List Node) → x.0.left + visits_of walked ≡ left → x.0.left + visits_of (node ∷ walked) ≡ more) → Walked nodes left x → Walked (node ∷ nodes) more x
one_more node nodes left more x k w = record { walked = node ∷ w.walked; rest = w.rest; front = ap (λ ns. node ∷ ns) w.front; turns = k w.walked w.turns; whole = w.whole }

-- nothing was walked
none_walked : (nodes : List Node) (p : Progress) (fault : Fault) → Walked nodes p.left (p, Some fault)
none_walked nodes p fault = record { walked = []; rest = nodes; front = refl; turns = omega arith; whole = λ e. cc }

walked_run : (nodes : List Node) (lenient : Bool) (left : ℕ) (fields : List Field) (faults : List Fault) (offsets : Noted) → Walked nodes left (run nodes (at_work lenient left fields faults offsets))
walked_run [] lenient left fields faults offsets = record { walked = []; rest = []; front = refl; turns = omega arith; whole = λ e. refl }
walked_run (Opens directory ∷ nodes) lenient left fields faults offsets =
    let more = directory_noted offsets directory in
    one_more (Opens directory) nodes left left (run nodes (at_work lenient left fields faults more)) (λ walked e. e) (walked_run nodes lenient left fields faults more)
walked_run (Visit ∷ nodes) lenient zero fields faults offsets = none_walked (Visit ∷ nodes) (at_work lenient zero fields faults offsets) _
walked_run (Visit ∷ nodes) lenient (suc n) fields faults offsets =
    one_more Visit nodes n (suc n) (run nodes (at_work lenient n fields faults offsets)) (λ walked e. omega arith) (walked_run nodes lenient n fields faults offsets)
walked_run (Found l ∷ nodes) lenient left fields faults offsets =
    let more = entry_noted offsets (entry_of l) in
    one_more (Found l) nodes left left (run nodes (at_work lenient left (fields ++ l.field ∷ []) faults more)) (λ walked e. e) (walked_run nodes lenient left (fields ++ l.field ∷ []) faults more)
walked_run (Met fault ∷ nodes) true left fields faults offsets =
    one_more (Met fault) nodes left left (run nodes (at_work true left fields (faults ++ fault ∷ []) offsets)) (λ walked e. e) (walked_run nodes true left fields (faults ++ fault ∷ []) offsets)
walked_run (Met fault ∷ nodes) false left fields faults offsets = none_walked (Met fault ∷ nodes) (at_work false left fields faults offsets) fault

walked_at : (nodes : List Node) (old : Progress) (x : Progress × Option Fault) → run nodes old ≡ x → Walked nodes old.left x
walked_at nodes old x e = subst (λ y. Walked nodes old.left y) e (walked_run nodes old.lenient old.left old.fields old.faults old.offsets)

all_walked : (nodes : List Node) (left : ℕ) (new : Progress) → Walked nodes left (new, None) → new.left + visits_of nodes ≡ left
all_walked nodes left new w = ap (λ ns. new.left + visits_of ns) (w.front ∙ (ap (λ rest. w.walked ++ rest) (w.whole refl) ∙ append-nil w.walked)) ∙ w.turns

-- what follows a trace counts its turns
pub counts_turns : (r : Result (Unit {0}) Stop) (old new : Progress) (nodes : List Node) → Follows r new (run nodes old) → CountsTurns r old new nodes
counts_turns (Ok u) old new nodes h = all_walked nodes old.left new (walked_at nodes old (new, None) h)
counts_turns (Err stop.OutOfMemory) old new nodes h = tt
counts_turns (Err (stop.Fault fault)) old new nodes h = let w = walked_at nodes old (new, Some fault) h in (w.walked, w.rest, w.front, w.turns)
