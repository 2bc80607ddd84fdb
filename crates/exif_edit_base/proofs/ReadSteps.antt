-- What lenient reading answers, as a reading.
use Rattle.std.proofs.Common.{◌≡◌, ◌≤◌, ◌<◌, ◌^◌, ◌-◌, ℕ, Bool, true, false, if◌then◌else◌, List, [], ◌∷◌, length, Option, Some, None, Result, Ok, Err, refl, sym, ap, ◌∙◌, arith}
use Rattle.std.proofs.lemmas.Bool.Decides.{nat_tests}
use Rattle.std.proofs.lemmas.Bool.{false≢true}
use Rattle.std.specs.Prelude.{nat_lt, nat_eq}
use Rattle.exif_base.specs.Bytes.{number_at}
use Rattle.exif_base.specs.Orders.{number_of}
use Rattle.exif_base.specs.declared.endian.Order.{Order}
use Rattle.exif_base.specs.declared.endian.Order.TheVariants.{Big, Little}
use Rattle.exif_types.specs.declared.field.Field.{Field}
use Rattle.exif_tiff.specs.declared.fault.Fault.{Fault}
use Rattle.exif_tiff.specs.declared.fault.Fault.TheVariants.{DataTooLarge, TruncatedHeader, InvalidByteOrder, InvalidFortyTwo}
use Rattle.exif_tiff.specs.Trace.{content_of, limited, header, order_of, ordered_trace, fields_of, faults_of}
use Rattle.exif_tiff.specs.Answers.{Answer, Refused, Whole, Partial, answer_of, raw_answer, shown}
use Rattle.exif_tiff.specs.Results.{Says, SaysOrder}
use Rattle.exif_tiff.specs.declared.tiff.Parsed.{Parsed}
use Rattle.exif_tiff.specs.declared.stop.Stop.{Stop}
use Rattle.exif_tiff.specs.declared.stop.Stop.TheVariants as stop
use Rattle.exif_edit_base.specs.Readings.{Read, is_little, reading, ReadsTo}

-- the fields and the faults that an answer shows; a refusal shows none
abbrev pub unshown : Answer → List Field × List Fault
unshown (Refused fault) = ([], [])
unshown (Whole fields) = (fields, [])
unshown (Partial fields faults) = (fields, faults)

-- from an answer that shows fields and faults, these are taken out again as they were
pub unshown_shown : (fields : List Field) (faults : List Fault)
    → ◌≡◌ {A = List Field × List Fault} (unshown (shown fields faults)) (fields, faults)
unshown_shown fields [] = refl
unshown_shown fields (fault ∷ faults) = refl

-- whether an answer is a refusal
abbrev pub is_refused : Answer → Bool
is_refused (Refused fault) = true
is_refused (Whole fields) = false
is_refused (Partial fields faults) = false

-- an answer that shows fields and faults is no refusal
pub not_refused : (fields : List Field) (faults : List Fault)
    → is_refused (shown fields faults) ≡ false
not_refused fields [] = refl
not_refused fields (fault ∷ faults) = refl

abbrev fault_in : Answer → Option Fault
fault_in (Refused fault) = Some fault
fault_in (Whole fields) = None
fault_in (Partial fields faults) = None

-- the answer, the trace and the reading, by the header
abbrev answer_by : Result Order Fault → List ℕ → Answer
answer_by x bytes =
    elim x [
      | Err fault ↦ Refused fault
      | Ok order ↦ answer_of true
          (content_of (limited None (ordered_trace (number_of order) bytes)))
    ]

-- what is read of the data, where their header gives this order or fault
abbrev pub reading_by : Result Order Fault → List ℕ → Result Read Fault
reading_by x bytes = elim x [
  | Err fault ↦ Err fault
  | Ok order ↦
      let nodes = ordered_trace (number_of order) bytes in
      Ok (record { little = is_little order; fields = fields_of nodes; faults = faults_of nodes })
]

little_named : (b : Bool) → is_little (if b then Little else Big) ≡ b
little_named true = refl
little_named false = refl

same_read : (a b : Bool) (fs gs : List Field) (xs ys : List Fault) → a ≡ b
    → ◌≡◌ {A = List Field × List Fault} (fs, xs) (gs, ys)
    → ◌≡◌ {A = Result Read Fault} (Ok (record { little = a; fields = fs; faults = xs }))
    (Ok (record { little = b; fields = gs; faults = ys }))
same_read a b fs gs xs ys e f =
    let p : fs ≡ gs = ap (λ (x : List Field × List Fault). x.0) f in
    let q : xs ≡ ys = ap (λ (x : List Field × List Fault). x.1) f in
    rw (e, p, q) refl

same_order : (a b : Order) → ◌≡◌ {A = Result Order Fault} (Ok a) (Ok b) → a ≡ b
same_order a b e = cc

read_by : (x : Result Order Fault) (bytes : List ℕ) (little : Bool) (fs : List Field)
    (gs : List Fault) → answer_by x bytes ≡ shown fs gs → x ≡ Ok (if little then Little else Big)
    → reading_by x bytes ≡ Ok (record { little = little; fields = fs; faults = gs })
read_by (Err fault) bytes little fs gs e h =
    absurd (false≢true (sym (not_refused fs gs) ∙ sym (ap is_refused e)))
read_by (Ok order) bytes little fs gs e h =
    let nodes = ordered_trace (number_of order) bytes in
    same_read (is_little order) little (fields_of nodes) fs (faults_of nodes) gs
    (ap is_little (same_order order (if little then Little else Big) h) ∙ little_named little)
    (sym (unshown_shown (fields_of nodes) (faults_of nodes)) ∙ (ap unshown e ∙ unshown_shown fs gs))

fault_by : (x : Result Order Fault) (bytes : List ℕ) (fault : Fault)
    → answer_by x bytes ≡ Refused fault → reading_by x bytes ≡ Err fault
fault_by (Err other) bytes fault e = let k : ◌≡◌ {A = Option Fault} (Some other) (Some fault) =
    ap fault_in e in cc
fault_by (Ok order) bytes fault e =
    let nodes = ordered_trace (number_of order) bytes in
    absurd (false≢true (sym (not_refused (fields_of nodes) (faults_of nodes)) ∙ ap is_refused e))

-- a parser that says the lenient answer and the byte order says the reading of the data
pub says_reads : (r : Result Parsed Stop) (bytes : List ℕ) → Says r (raw_answer true None bytes)
    → SaysOrder r bytes → ReadsTo r (reading bytes)
unfolding raw_answer reading
says_reads (Ok parsed) bytes e h =
    read_by (header bytes) bytes parsed.little_endian parsed.fields.items parsed.faults.items e h
says_reads (Err (stop.Fault fault)) bytes e h = fault_by (header bytes) bytes fault e
says_reads (Err stop.OutOfMemory) bytes e h = tt

-- a test that was skipped
passed : (b : Bool) (fault : Fault) (r : Result Order Fault) (order : Order)
    → (if b then Err fault else r) ≡ Ok order → (b ≡ false) × (r ≡ Ok order)
passed true fault r order e = absurd (err_ok e)
  where
    err_ok : ◌≡◌ {A = Result Order Fault} (Err fault) (Ok order) → ⊥
    err_ok e = cc
passed false fault r order e = (refl, e)

-- data with a good header have 8 bytes at least, and fewer than 2^32
pub header_space : (bytes : List ℕ) (order : Order) → header bytes ≡ Ok order
    → (8 ≤ length bytes) × (length bytes < 2 ^ 32)
header_space bytes order e =
    let a = passed (nat_lt (2 ^ 32 - 1) (length bytes)) DataTooLarge
    (if nat_lt (length bytes) 8 then Err TruncatedHeader else elim (order_of bytes) [
      | None ↦ Err InvalidByteOrder
      | Some o ↦ if nat_eq (number_at (number_of o) 2 bytes 2) 42
          then Ok o else Err InvalidFortyTwo
    ]) order e in
    let b = passed (nat_lt (length bytes) 8) TruncatedHeader
    (elim (order_of bytes) [
      | None ↦ Err InvalidByteOrder
      | Some o ↦ if nat_eq (number_at (number_of o) 2 bytes 2) 42
          then Ok o else Err InvalidFortyTwo
    ]) order a.1 in
    let p = a.0 in
    let q = b.0 in
    (grind (arith, nat_tests), grind (arith, nat_tests))
