-- Reading answers the same of data that agree on the footprint of the one.
use Rattle.std.proofs.Common.{◌≡◌, ◌^◌, ◌-◌, ◌==◌, ℕ, Bool, if◌then◌else◌, List, [], ◌∷◌, length, slice_index, Option, Some, None, Result, Ok, Err, refl, ap, ◌∙◌, arith}
use Rattle.std.proofs.lemmas.List.Elements.{recursion_from_All}
use Rattle.std.specs.Prelude.{nat_lt}
use Rattle.std.specs.List.{AllByRecursion}
use Rattle.exif_base.specs.Bytes.{number_at}
use Rattle.exif_base.specs.Orders.{number_of}
use Rattle.exif_base.specs.declared.endian.Order.{Order}
use Rattle.exif_tiff.specs.Answers.{Answer, Refused, answer_of, raw_answer}
use Rattle.exif_tiff.specs.declared.fault.Fault.{Fault}
use Rattle.exif_tiff.specs.declared.fault.Fault.TheVariants.{DataTooLarge, TruncatedHeader, InvalidByteOrder, InvalidFortyTwo}
use Rattle.exif_tiff.specs.Footprint.{Agree, FootprintSettlesAnswer, FootprintIsShared, FootprintSettlesTrace, Stretch, footprint, ordered_footprint}
use Rattle.exif_tiff.specs.Trace.{Node, content_of, header, limited, order_of, ordered_trace, trace}
use Rattle.exif_tiff.proofs.Agreement.{Same, number_same, part_same, same_of}
use Rattle.exif_tiff.proofs.FootprintShared.{shared_in_order}
use Rattle.exif_tiff.proofs.Footprints.{ordered_same}

-- a header by its order
abbrev pub ordered : List ℕ → Option Order → Result Order Fault
ordered bytes o = elim o [
  | None ↦ Err InvalidByteOrder
  | Some order ↦
      if number_at (number_of order) 2 bytes 2 == 42 then Ok order else Err InvalidFortyTwo
]

module _ (a b : List ℕ) where
  by_order : (o : Option Order) → Same a b 0 8 → ordered a o ≡ ordered b o
  by_order None s = refl
  by_order (Some order) s =
      let number = number_same order 2 a b 2
      (part_same a b 0 8 2 2 (omega arith) (omega arith) s) in
      rw number refl

  -- data that begin alike are of one order
  pub ordered_alike : Same a b 0 8 → ordered a (order_of a) ≡ ordered b (order_of b)
  ordered_alike s =
      let zeroth : slice_index a 0 ≡ slice_index b 0 = s 0 (omega arith) (omega arith) in
      let first : slice_index a 1 ≡ slice_index b 1 = s 1 (omega arith) (omega arith) in
      let order : order_of a ≡ order_of b = rw (zeroth, first) refl in
      by_order (order_of a) s ∙ ap (ordered b) order

module _ (a b : List ℕ) (as_long : length a ≡ length b) where
  -- data of one length whose first 8 bytes are the same have the same header
  pub header_same : Same a b 0 8 → header a ≡ header b
  header_same s =
      rw (← as_long)
      (ap (λ r. if nat_lt (2 ^ 32 - 1) (length a) then Err DataTooLarge else
      (if nat_lt (length a) 8 then Err TruncatedHeader else r)) (ordered_alike a b s))

  -- what data hold behind this header
  abbrev Behind : Result Order Fault → Type 0
  Behind x = AllByRecursion (Agree a b) (elim x as (λ _. List _) [
    | Ok order ↦ ordered_footprint (number_of order) a
    | Err fault ↦ []
  ])

  trace_by : (x : Result Order Fault) → Same a b 0 8 → Behind x
      → elim x as (λ _. List Node) [ Ok order ↦ ordered_trace (number_of order) a | Err fault ↦ [] ]
      ≡ elim x as (λ _. List Node) [ Ok order ↦ ordered_trace (number_of order) b | Err fault ↦ [] ]
  trace_by (Err fault) s h = refl
  trace_by (Ok order) s h = ordered_same order a b as_long s h

  abbrev answer_by : Bool → Option ℕ → List ℕ → Result Order Fault → Answer
  answer_by lenient limit bytes x = elim x [
    | Err fault ↦ Refused fault
    | Ok order ↦
        answer_of lenient (content_of (limited limit (ordered_trace (number_of order) bytes)))
  ]

  answer_same : (lenient : Bool) (limit : Option ℕ) (x : Result Order Fault) → Same a b 0 8
      → Behind x → answer_by lenient limit a x ≡ answer_by lenient limit b x
  answer_same lenient limit (Err fault) s h = refl
  answer_same lenient limit (Ok order) s h =
      ap (λ nodes. answer_of lenient (content_of (limited limit nodes)))
      (ordered_same order a b as_long s h)

  -- the footprint behind a header
  abbrev footprint_by : List ℕ → Result Order Fault → List Stretch
  footprint_by bytes x = record { offset = 0; len = 8 } ∷ elim x [
    | Ok order ↦ ordered_footprint (number_of order) bytes
    | Err fault ↦ []
  ]

  footprint_same : (x : Result Order Fault) → Same a b 0 8 → Behind x
      → footprint_by a x ≡ footprint_by b x
  footprint_same (Err fault) s h = refl
  footprint_same (Ok order) s h =
      ap (λ rest. record { offset = 0; len = 8 } ∷ rest) (shared_in_order order a b as_long s h)

-- data of one length that agree on the footprint of the one have the same footprint
pub footprint_shared : (a b : List ℕ) → FootprintIsShared a b
footprint_shared a b as_long agree =
    let all = recursion_from_All (Agree a b) (footprint a) agree in
    let s = same_of a b 0 8 all.0 in
    footprint_same a b as_long (header a) s all.1
    ∙ ap (footprint_by a b as_long b) (header_same a b as_long s)

-- such data have the same trace: bytes outside of the footprint do not matter
pub trace_settled : (a b : List ℕ) → FootprintSettlesTrace a b
unfolding trace
trace_settled a b as_long agree =
    let all = recursion_from_All (Agree a b) (footprint a) agree in
    let s = same_of a b 0 8 all.0 in
    trace_by a b as_long (header a) s all.1
    ∙ ap (λ x. elim x as (λ _. List Node)
    [ Ok order ↦ ordered_trace (number_of order) b | Err fault ↦ [] ]) (header_same a b as_long s)

-- and reading answers the same of both, strict or lenient, under any limit
pub answer_settled : (lenient : Bool) (limit : Option ℕ) (a b : List ℕ)
    → FootprintSettlesAnswer lenient limit a b
unfolding raw_answer
answer_settled lenient limit a b as_long agree =
    let all = recursion_from_All (Agree a b) (footprint a) agree in
    let s = same_of a b 0 8 all.0 in
    answer_same a b as_long lenient limit (header a) s all.1
    ∙ ap (answer_by a b as_long lenient limit b) (header_same a b as_long s)
