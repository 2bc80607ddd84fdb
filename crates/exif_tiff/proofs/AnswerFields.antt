-- What an answer's fields have.
use Rattle.std.proofs.Common.{◌≡◌, ℕ, Bool, true, false, List, [], ◌∷◌, Option, Result, Ok, Err, refl, ◌∙◌, subst, All}
use Rattle.std.specs.Prelude.{⊤}
use Rattle.exif_base.specs.Orders.{number_of}
use Rattle.exif_types.specs.Sound.{IsRead}
use Rattle.exif_base.specs.declared.endian.Order.{Order}
use Rattle.exif_tiff.specs.declared.fault.Fault.{Fault}
use Rattle.exif_types.specs.declared.field.Field.{Field}
use Rattle.exif_tiff.specs.Trace.{Content, content_of, limited, header, ordered_trace}
use Rattle.exif_tiff.specs.Answers.{Answer, Refused, Whole, Partial, answer_of, raw_answer, shown}
use Rattle.exif_tiff.proofs.ReadFields.{ordered_read, limited_read}

-- each field of the answer is one that reading gives
abbrev AnswerIsRead : Answer → Type 0
AnswerIsRead (Refused fault) = ⊤
AnswerIsRead (Whole fields) = All IsRead fields
AnswerIsRead (Partial fields faults) = All IsRead fields

shown_read : (fields : List Field) (faults : List Fault) → AnswerIsRead (shown fields faults) → All IsRead fields
shown_read fields [] h = h
shown_read fields (fault ∷ faults) h = h

read_shown : (fields : List Field) (faults : List Fault) → All IsRead fields → AnswerIsRead (shown fields faults)
read_shown fields [] h = h
read_shown fields (fault ∷ faults) h = h

strict_read : (fields : List Field) (faults : List Fault) → All IsRead fields → AnswerIsRead (answer_of false (record { fields = fields; faults = faults }))
strict_read fields [] h = h
strict_read fields (fault ∷ faults) h = tt

answer_read : (lenient : Bool) (content : Content) → All IsRead content.fields → AnswerIsRead (answer_of lenient content)
answer_read true content h = read_shown content.fields content.faults h
answer_read false content h = strict_read content.fields content.faults h

by_header : (x : Result Order Fault) (lenient : Bool) (limit : Option ℕ) (bytes : List ℕ) → AnswerIsRead (elim x [ Err fault ↦ Refused fault | Ok order ↦ answer_of lenient (content_of (limited limit (ordered_trace (number_of order) bytes))) ])
by_header (Err fault) lenient limit bytes = tt
by_header (Ok order) lenient limit bytes =
    answer_read lenient (content_of (limited limit (ordered_trace (number_of order) bytes))) (limited_read limit (ordered_trace (number_of order) bytes) (ordered_read (number_of order) bytes))

raw_read : (lenient : Bool) (limit : Option ℕ) (bytes : List ℕ) → AnswerIsRead (raw_answer lenient limit bytes)
unfolding raw_answer
raw_read lenient limit bytes = by_header (header bytes) lenient limit bytes

-- and so is each that a reading shows
pub shown_fields : (lenient : Bool) (limit : Option ℕ) (bytes : List ℕ) (fields : List Field) (faults : List Fault) → raw_answer lenient limit bytes ≡ shown fields faults → All IsRead fields
shown_fields lenient limit bytes fields faults e = shown_read fields faults (subst AnswerIsRead e (raw_read lenient limit bytes))

-- a strict answer is never partial
abbrev IsNotPartial : Answer → Type 0
IsNotPartial (Refused fault) = ⊤
IsNotPartial (Whole fields) = ⊤
IsNotPartial (Partial fields faults) = ⊥

strict_answer : (fields : List Field) (faults : List Fault) → IsNotPartial (answer_of false (record { fields = fields; faults = faults }))
strict_answer fields [] = tt
strict_answer fields (fault ∷ faults) = tt

strict_by : (x : Result Order Fault) (limit : Option ℕ) (bytes : List ℕ) → IsNotPartial (elim x [ Err fault ↦ Refused fault | Ok order ↦ answer_of false (content_of (limited limit (ordered_trace (number_of order) bytes))) ])
strict_by (Err fault) limit bytes = tt
strict_by (Ok order) limit bytes = let c = content_of (limited limit (ordered_trace (number_of order) bytes)) in strict_answer c.fields c.faults

strict_raw : (limit : Option ℕ) (bytes : List ℕ) → IsNotPartial (raw_answer false limit bytes)
unfolding raw_answer
strict_raw limit bytes = strict_by (header bytes) limit bytes

shown_whole : (fields : List Field) (faults : List Fault) → IsNotPartial (shown fields faults) → shown fields faults ≡ Whole fields
shown_whole fields [] h = refl
shown_whole fields (fault ∷ faults) h = absurd h

-- strict reading that shows fields shows them as all there are, with no fault
pub strict_whole : (limit : Option ℕ) (bytes : List ℕ) (fields : List Field) (faults : List Fault) → raw_answer false limit bytes ≡ shown fields faults → raw_answer false limit bytes ≡ Whole fields
strict_whole limit bytes fields faults e = e ∙ shown_whole fields faults (subst IsNotPartial e (strict_raw limit bytes))
