-- One reading gives no more than its entries.
use Rattle.std.proofs.Common.{◌≡◌, ◌+◌, ℕ, Bool, true, false, List, [], ◌∷◌, length, map, Option, Some, None, Result, Ok, Err, sym, ap, ◌∙◌, subst, add-zero, arith}
use Rattle.std.proofs.lemmas.List.{length-map}
use Rattle.std.specs.Prelude.{Vec, ⊤}
use Rattle.std.specs.Borrow.{Bor}
use Rattle.std.specs.Global.{Global}
use Rattle.exif_base.specs.Orders.{number_of}
use Rattle.exif_base.specs.declared.endian.Order.{Order}
use Rattle.exif_types.specs.Contents.{ExifContents}
use Rattle.exif_types.specs.Failures.{Failure, bytes_of}
use Rattle.exif_types.specs.declared.error.Error.TheVariants as error
use Rattle.exif_types.specs.declared.field.Field.{Field}
use Rattle.exif_tiff.specs.Answers.{Answer, Refused, Whole, Partial, answer_of, raw_answer}
use Rattle.exif_tiff.specs.Faults.{text_of}
use Rattle.exif_tiff.specs.Trace.{Node, content_of, fields_of, faults_of, limited, header, ordered_trace, trace}
use Rattle.exif_tiff.specs.Visits.{AreBytes, VisitsAreBounded, ReportsAreBoundedUnder, LimitAndLengthBoundReports}
use Rattle.exif_tiff.specs.declared.fault.Fault.{Fault}
use Rattle.exif_tiff.specs.Bounds.{IsBounded, ReportsAtMost, FieldsAtMost}
use Rattle.exif_tiff.specs.Readings.{ReadsAs, ParsesAs}

-- what holds of each reading's number of fields and faults
pub is_bounded : (limit : Option ℕ) (bytes : List ℕ) → AreBytes bytes → ((bytes : List ℕ) → VisitsAreBounded bytes)
    → ((limit : Option ℕ) (bytes : List ℕ) → ReportsAreBoundedUnder limit bytes) → ((n : ℕ) (bytes : List ℕ) → LimitAndLengthBoundReports n bytes)
    → IsBounded limit bytes (length (fields_of (limited limit (trace bytes))) + length (faults_of (limited limit (trace bytes))))
is_bounded (Some n) bytes a visits any_limit least = record { by_visits = any_limit (Some n) bytes; by_length = omega (arith, least n bytes a) }
is_bounded None bytes a visits any_limit least = record { by_visits = any_limit None bytes; by_length = omega (arith, any_limit None bytes, visits bytes a) }

-- what holds of the number of an answer's fields and faults
abbrev OfReports : (ℕ → Type 0) → Answer → Type 0
OfReports P (Refused fault) = ⊤
OfReports P (Whole fields) = P (length fields)
OfReports P (Partial fields faults) = P (length fields + length faults)

-- how many fields and faults a trace has
abbrev reports : List Node → ℕ
reports nodes = length (fields_of nodes) + length (faults_of nodes)

of_answer : (P : ℕ → Type 0) (lenient : Bool) (fields : List Field) (faults : List Fault) → P (length fields + length faults)
    → OfReports P (answer_of lenient (record { fields = fields; faults = faults }))
of_answer P true fields [] h = rw add-zero at h
of_answer P true fields (fault ∷ faults) h = h
of_answer P false fields [] h = rw add-zero at h
of_answer P false fields (fault ∷ faults) h = tt

by_header : (P : ℕ → Type 0) (x : Result Order Fault) (lenient : Bool) (limit : Option ℕ) (bytes : List ℕ)
    → P (reports (limited limit (elim x as (λ _. List Node) [ Ok order ↦ ordered_trace (number_of order) bytes | Err fault ↦ [] ])))
    → OfReports P (elim x as (λ _. Answer) [ Err fault ↦ Refused fault | Ok order ↦ answer_of lenient (content_of (limited limit (ordered_trace (number_of order) bytes))) ])
by_header P (Err fault) lenient limit bytes h = tt
by_header P (Ok order) lenient limit bytes h =
    of_answer P lenient (fields_of (limited limit (ordered_trace (number_of order) bytes))) (faults_of (limited limit (ordered_trace (number_of order) bytes))) h

-- the answer has as many as the trace
of_raw : (P : ℕ → Type 0) (lenient : Bool) (limit : Option ℕ) (bytes : List ℕ) → P (reports (limited limit (trace bytes))) → OfReports P (raw_answer lenient limit bytes)
unfolding raw_answer trace
of_raw P lenient limit bytes h = by_header P (header bytes) lenient limit bytes h

same_count : (told : List (Option (Bor (List ℕ)))) (faults : List Fault) → map bytes_of told ≡ map text_of faults → length told ≡ length faults
same_count told faults e = sym (length-map told bytes_of) ∙ (ap length e ∙ length-map faults text_of)

-- what a reader answers is bounded as its data are
pub reads_bounded : (lenient : Bool) (limit : Option ℕ) (bytes : List ℕ) (result : Result ExifContents Failure)
    → IsBounded limit bytes (length (fields_of (limited limit (trace bytes))) + length (faults_of (limited limit (trace bytes))))
    → ReadsAs (raw_answer lenient limit bytes) bytes result → ReportsAtMost limit result
reads_bounded lenient limit bytes (Ok exif) b h =
    let P : Answer → Type 0 = OfReports (IsBounded limit bytes) in
    let Q : List ℕ → Type 0 = λ own. IsBounded limit own (length exif.fields) in
    subst Q (sym h.1.0) (subst P h.0 (of_raw (IsBounded limit bytes) lenient limit bytes b))
reads_bounded lenient limit bytes (Err (error.PartialResult partial)) b h =
    let P : Answer → Type 0 = OfReports (IsBounded limit bytes) in
    let Q : List ℕ → Type 0 = λ own. IsBounded limit own (length partial.exif.fields + length partial.faults) in
    let k = subst P h.1 (of_raw (IsBounded limit bytes) lenient limit bytes b) in
    subst Q (sym h.3.0) (rw (same_count partial.faults h.0 h.2) k)
reads_bounded lenient limit bytes (Err e) b h = tt

-- and what parsing answers
pub parses_bounded : (bytes : List ℕ) (result : Result (Vec Field Global × Bool) Failure)
    → IsBounded None bytes (length (fields_of (trace bytes)) + length (faults_of (trace bytes)))
    → ParsesAs (raw_answer false None bytes) bytes result → FieldsAtMost bytes result
parses_bounded bytes (Ok parsed) b h =
    let P : Answer → Type 0 = OfReports (IsBounded None bytes) in subst P h.0 (of_raw (IsBounded None bytes) false None bytes b)
parses_bounded bytes (Err e) b h = tt
