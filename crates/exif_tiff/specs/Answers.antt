-- What reading TIFF data answers.
use Rattle.std.specs.Prelude.{◌≡◌, ℕ, ◌==◌, Bool, true, false, List, [], ◌∷◌, slice_index, Option, Ok, Err}
use Rattle.exif_types.specs.declared.field.Field.{Field}
use Rattle.exif_tiff.specs.declared.fault.Fault.{Fault}
use Rattle.exif_base.specs.Orders.{number_of}
use Rattle.exif_tiff.specs.Trace.{Content, content_of, limited, header, ordered_trace}

-- a refusal; all the fields; or the fields and the faults that were found
pub data Answer : Type 0 where
  Refused : Fault → Answer
  Whole : List Field → Answer
  Partial : List Field → List Fault → Answer

-- fields, with the faults if there are some
abbrev pub shown : List Field → List Fault → Answer
shown fields [] = Whole fields
shown fields (fault ∷ faults) = Partial fields (fault ∷ faults)

-- lenient reading passes over the faults, strict reading refuses with the first
abbrev pub answer_of : Bool → Content → Answer
answer_of true content = shown content.fields content.faults
answer_of false content =
    elim content.faults [ [] ↦ Whole content.fields | fault ∷ faults ↦ Refused fault ]

-- the answer to data, lenient or strict, under a limit on the visited entries
unfoldable pub raw_answer : Bool → Option ℕ → List ℕ → Answer
raw_answer lenient limit bytes = elim (header bytes) [
  | Err fault ↦ Refused fault
  | Ok order ↦
      answer_of lenient (content_of (limited limit (ordered_trace (number_of order) bytes)))
]

-- whether the data say that they are little endian
abbrev pub is_little_endian : List ℕ → Bool
is_little_endian bytes = slice_index bytes 0 == 0x49

-- a partial answer as its first fault; any other answer as it is
abbrev pub first_fault : Answer → Answer
first_fault (Refused fault) = Refused fault
first_fault (Whole fields) = Whole fields
first_fault (Partial fields []) = Whole fields
first_fault (Partial fields (fault ∷ faults)) = Refused fault

-- strict reading answers what lenient reading answers, but for a first fault in place of a partial
-- answer
abbrev pub StrictIsFirstFault : Option ℕ → List ℕ → Type 0
StrictIsFirstFault limit bytes =
    raw_answer false limit bytes ≡ first_fault (raw_answer true limit bytes)
