-- Strict and lenient reading.
use Rattle.std.proofs.Common.{◌≡◌, ℕ, true, false, List, [], ◌∷◌, Option, Result, Ok, Err, refl}
use Rattle.exif_base.specs.Orders.{number_of}
use Rattle.exif_base.specs.declared.endian.Order.{Order}
use Rattle.exif_tiff.specs.declared.fault.Fault.{Fault}
use Rattle.exif_types.specs.declared.field.Field.{Field}
use Rattle.exif_tiff.specs.Trace.{content_of, limited, header, ordered_trace}
use Rattle.exif_tiff.specs.Answers.{Refused, answer_of, raw_answer, first_fault, StrictIsFirstFault}

answers : (fields : List Field) (faults : List Fault) → answer_of false (record { fields = fields; faults = faults }) ≡ first_fault (answer_of true (record { fields = fields; faults = faults }))
answers fields [] = refl
answers fields (fault ∷ faults) = refl

by_header : (x : Result Order Fault) (limit : Option ℕ) (bytes : List ℕ) → elim x [ Err fault ↦ Refused fault | Ok order ↦ answer_of false (content_of (limited limit (ordered_trace (number_of order) bytes))) ] ≡ first_fault (elim x [ Err fault ↦ Refused fault | Ok order ↦ answer_of true (content_of (limited limit (ordered_trace (number_of order) bytes))) ])
by_header (Err fault) limit bytes = refl
by_header (Ok order) limit bytes = let c = content_of (limited limit (ordered_trace (number_of order) bytes)) in answers c.fields c.faults

-- strict reading answers as lenient reading, or with the first fault where that is partial
pub strict_is_first_fault : (limit : Option ℕ) (bytes : List ℕ) → StrictIsFirstFault limit bytes
unfolding raw_answer
strict_is_first_fault limit bytes = by_header (header bytes) limit bytes
