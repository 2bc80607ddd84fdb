-- A lenient parser that notes offsets has those of the trace that it read.
use Rattle.std.proofs.Common.{◌≡◌, ◌∙◌, ℕ, zero, suc, Bool, true, false, List, [], ◌∷◌, ◌++◌, map, Option, Some, None, refl, sym, ap, append_assoc}
use Rattle.std.proofs.lemmas.List.{append-nil}
use Rattle.exif_base.specs.Bytes.{Reading, number_at}
use Rattle.exif_types.specs.declared.field.Field.{Field}
use Rattle.exif_tiff.specs.declared.fault.Fault.{Fault}
use Rattle.exif_tiff.specs.declared.offset.DirectoryOffset.{DirectoryOffset}
use Rattle.exif_tiff.specs.declared.offset.EntryOffset.{EntryOffset}
use Rattle.exif_tiff.specs.Trace.{Found, Met, Node, Opens, Visit, chain_nodes, cut, directories_of, entry_of, located_of, ordered_trace}
use Rattle.exif_tiff.specs.Noted.{Noted, TellsOffsets}
use Rattle.exif_tiff.specs.Running.{Progress, on_met, run}
use Rattle.exif_tiff.proofs.TiffOutcomes.{at_work, stopped}

-- the offsets that were requested
abbrev pub asked : List EntryOffset → List DirectoryOffset → Noted
asked entries directories = record { asked = true; entries = entries; directories = directories }

-- what was noted before a trace, and what the trace adds
abbrev added : List EntryOffset → List DirectoryOffset → List Node → Noted
added entries directories nodes =
    asked (entries ++ map entry_of (located_of nodes)) (directories ++ directories_of nodes)

noted : (nodes : List Node) (left : ℕ) (fields : List Field) (faults : List Fault)
    (entries : List EntryOffset) (directories : List DirectoryOffset)
    → (run nodes (at_work true left fields faults (asked entries directories))).0.offsets
    ≡ added entries directories (cut left nodes)
noted [] left fields faults entries directories = rw (append-nil, append-nil) refl
noted (Opens directory ∷ nodes) left fields faults entries directories =
    noted nodes left fields faults entries (directories ++ directory ∷ [])
    ∙ rw append_assoc refl
noted (Visit ∷ nodes) zero fields faults entries directories = rw (append-nil, append-nil) refl
noted (Visit ∷ nodes) (suc n) fields faults entries directories =
    noted nodes n fields faults entries directories
noted (Found l ∷ nodes) left fields faults entries directories =
    noted nodes left (fields ++ l.field ∷ []) faults (entries ++ entry_of l ∷ []) directories
    ∙ rw append_assoc refl
noted (Met fault ∷ nodes) left fields faults entries directories =
    noted nodes left fields (faults ++ fault ∷ []) entries directories

-- the same of the chain, from a parser that has read nothing
pub told : (number : Reading) (bytes : List ℕ) (lenient wanted : Bool) (most : ℕ) (start : Progress)
    (x : Progress × Option Fault)
    → start ≡ at_work lenient most [] []
    (record { asked = wanted; entries = []; directories = [] })
    → run (chain_nodes 8 number bytes 0 (number_at number 4 bytes 4)) start ≡ x
    → lenient ≡ true → wanted ≡ true
    → TellsOffsets (cut most (ordered_trace number bytes)) x.0.offsets
unfolding ordered_trace
told number bytes lenient wanted most start x s e l w =
    let nodes = chain_nodes 8 number bytes 0 (number_at number 4 bytes 4) in
    let begun : start ≡ at_work true most [] [] (asked [] []) =
    s ∙ (λ i. at_work (l i) most [] [] (record { asked = w i; entries = []; directories = [] })) in
    let all : x.0.offsets ≡ added [] [] (cut most nodes) =
    ap (λ (y : Progress × Option Fault). y.0.offsets) (sym e)
    ∙ (ap (λ (p : Progress). (run nodes p).0.offsets) begun ∙ noted nodes most [] [] [] []) in
    record {
      entries = ap (λ (p : Noted). p.entries) all;
      directories = ap (λ (p : Noted). p.directories) all;
    }

-- a fault that is noted changes no offset
by_mode : (b : Bool) (p q : Progress) (fault : Fault)
    → elim b as (λ _. Progress × Option Fault) [
      | true ↦ (record p { faults = p.faults ++ fault ∷ [] }, None)
      | false ↦ (p, Some fault)
    ]
    ≡ (q, None) → p.offsets ≡ q.offsets
by_mode true p q fault e = ap (λ (y : Progress × Option Fault). y.0.offsets) e
by_mode false p q fault e = absurd (stopped p q fault e)

-- so a parser that goes on after a fault has the offsets that it had before
pub met_offsets : (p q : Progress) (fault : Fault) → on_met p fault ≡ (q, None)
    → p.offsets ≡ q.offsets
met_offsets p q fault e = by_mode p.lenient p q fault e
