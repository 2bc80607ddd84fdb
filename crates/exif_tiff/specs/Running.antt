-- What a parser that reads a trace from first to last has when it ends or stops.
use Rattle.std.specs.Prelude.{ℕ, zero, suc, Bool, true, false, List, [], ◌∷◌, ◌++◌, Option, Some, None}
use Rattle.exif_tiff.specs.Trace.{Located, Node, Opens, Visit, Found, Met, entry_of}
use Rattle.exif_tiff.specs.Answers.{Answer, Refused, shown}
use Rattle.exif_types.specs.declared.field.Field.{Field}
use Rattle.exif_tiff.specs.declared.fault.Fault.{Fault}
use Rattle.exif_tiff.specs.declared.offset.DirectoryOffset.{DirectoryOffset}
use Rattle.exif_tiff.specs.Noted.{Noted, directory_noted, entry_noted}
use Rattle.exif_tiff.specs.declared.fault.Fault.TheVariants.{TooManyEntries}

-- a parser: whether faults are noted and skipped, how many entries it may still visit, what it
-- has read, and where that is; each visit takes one of the entries that are left, so what is
-- gone of them counts the parser's turns
pub record Progress : Type 0 where
  pub lenient : Bool
  pub left : ℕ
  pub fields : List Field
  pub faults : List Fault
  pub offsets : Noted

-- one node, and the fault at which the parser stops there
abbrev pub on_opens : Progress → DirectoryOffset → Progress × Option Fault
on_opens p directory = (record p { offsets = directory_noted p.offsets directory }, None)

-- a visit takes one of the entries that are left, and stops the parser where none is
abbrev pub on_visit : Progress → Progress × Option Fault
on_visit p = elim p.left [ zero ↦ (p, Some TooManyEntries) | suc n ↦ (record p { left = n }, None) ]

-- a found field comes behind those read before, and its offset is noted if offsets are requested
abbrev pub on_found : Progress → Located → Progress × Option Fault
on_found p l =
    let offsets = entry_noted p.offsets (entry_of l) in
    (record p { fields = p.fields ++ l.field ∷ []; offsets = offsets }, None)

-- a fault that is found is noted by a lenient parser, and stops a strict one
abbrev pub on_met : Progress → Fault → Progress × Option Fault
on_met p fault =
    elim p.lenient [
      | true ↦ (record p { faults = p.faults ++ fault ∷ [] }, None)
      | false ↦ (p, Some fault)
    ]

-- a node of any kind, and the fault at which the parser stops there
abbrev pub on_node : Progress → Node → Progress × Option Fault
on_node p (Opens directory) = on_opens p directory
on_node p Visit = on_visit p
on_node p (Found l) = on_found p l
on_node p (Met fault) = on_met p fault

-- go on, unless the parser has stopped
abbrev pub and_then :
    Progress × Option Fault → (Progress → Progress × Option Fault) → Progress × Option Fault
and_then (p, None) next = next p
and_then (p, Some fault) next = (p, Some fault)

-- all the nodes, up to where the parser stops
abbrev pub run : List Node → Progress → Progress × Option Fault
run [] p = (p, None)
run (node ∷ nodes) p = and_then (on_node p node) (run nodes)

-- what a parser answers when it ended or stopped
abbrev pub outcome : Progress × Option Fault → Answer
outcome (p, None) = shown p.fields p.faults
outcome (p, Some fault) =
    elim p.lenient [ true ↦ shown p.fields (p.faults ++ fault ∷ []) | false ↦ Refused fault ]
