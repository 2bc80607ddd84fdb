-- Fields and faults under a limit on the visits.
use Rattle.std.proofs.Common.{◌≤◌, ◌+◌, ◌==◌, ℕ, zero, suc, Bool, true, false, List, [], ◌∷◌, ◌++◌, length, Option, Some, None, Result, Ok, Err, arith}
use Rattle.std.specs.List.{flat_map}
use Rattle.std.specs.Prelude.{if◌then◌else◌, ⊤}
use Rattle.exif_base.specs.Bytes.{Reading, number_at}
use Rattle.exif_base.specs.Orders.{number_of}
use Rattle.exif_base.specs.declared.endian.Order.{Order}
use Rattle.exif_types.specs.Numbers.{number_in}
use Rattle.exif_types.specs.declared.value.Value.{Value}
use Rattle.exif_table.specs.declared.context.Context.{Context}
use Rattle.exif_table.specs.declared.context.Context.TheVariants.{Tiff}
use Rattle.exif_tiff.specs.declared.fault.Fault.{Fault}
use Rattle.exif_tiff.specs.declared.fault.Fault.TheVariants.{UnexpectedNext, TooManyDirectories}
use Rattle.exif_tiff.specs.Trace.{Node, Visit, Found, Met, Directory, visits_of, fields_of, faults_of, cut, trace, ordered_trace, header, chain_nodes, chain_after, directory_nodes, directory_end, entry_nodes, entry_offsets, entry_value, valued_nodes, tagged_nodes, pointer_nodes, child_end, child_of, Opens}
use Rattle.exif_tiff.specs.Visits.{ReportsAreBoundedUnder, LimitBoundsReports, LimitAndLengthBoundReports}
use Rattle.exif_tiff.proofs.VisitBound.{visits_bounded}
use Rattle.exif_tiff.proofs.Limits.{visits_limited}
use Rattle.exif_tiff.proofs.ReportBound.{Reports, directory_reports, entry_reports, trace_reports}

-- after v visits and r fields and faults, there are no more of these than visits before each further visit
abbrev PaidFrom : ℕ → ℕ → List Node → Type 0
PaidFrom v r [] = ⊤
PaidFrom v r (Opens directory ∷ nodes) = PaidFrom v r nodes
PaidFrom v r (Visit ∷ nodes) = (r ≤ v) × PaidFrom (v + 1) r nodes
PaidFrom v r (Found l ∷ nodes) = PaidFrom v (r + 1) nodes
PaidFrom v r (Met fault ∷ nodes) = PaidFrom v (r + 1) nodes

-- so from the beginning
record Paid (nodes : List Node) : Type 0 where
  paid : PaidFrom 0 0 nodes

-- fewer fields and faults for the visits are still paid
paid_more : (v r w s : ℕ) (nodes : List Node) → s + v ≤ r + w → PaidFrom v r nodes → PaidFrom w s nodes
paid_more v r w s [] h p = tt
paid_more v r w s (Opens directory ∷ nodes) h p = paid_more v r w s nodes h p
paid_more v r w s (Visit ∷ nodes) h p = (omega (arith, p.0), paid_more (v + 1) r (w + 1) s nodes (omega arith) p.1)
paid_more v r w s (Found l ∷ nodes) h p = paid_more v (r + 1) w (s + 1) nodes (omega arith) p
paid_more v r w s (Met fault ∷ nodes) h p = paid_more v (r + 1) w (s + 1) nodes (omega arith) p

paid-append : (v r : ℕ) (xs ys : List Node) → PaidFrom v r xs → PaidFrom (v + visits_of xs) (r + (length (fields_of xs) + length (faults_of xs))) ys → PaidFrom v r (xs ++ ys)
paid-append v r [] ys p q = paid_more (v + 0) (r + 0) v r ys (omega arith) q
paid-append v r (Opens directory ∷ xs) ys p q = paid-append v r xs ys p q
paid-append v r (Visit ∷ xs) ys p q =
    (p.0, paid-append (v + 1) r xs ys p.1 (paid_more (v + (visits_of xs + 1)) (r + (length (fields_of xs) + length (faults_of xs))) (v + 1 + visits_of xs) (r + (length (fields_of xs) + length (faults_of xs))) ys (omega arith) q))
paid-append v r (Found l ∷ xs) ys p q =
    paid-append v (r + 1) xs ys p (paid_more (v + visits_of xs) (r + (length (l.field ∷ fields_of xs) + length (faults_of xs))) (v + visits_of xs) (r + 1 + (length (fields_of xs) + length (faults_of xs))) ys (omega arith) q)
paid-append v r (Met fault ∷ xs) ys p q =
    paid-append v (r + 1) xs ys p (paid_more (v + visits_of xs) (r + (length (fields_of xs) + length (fault ∷ faults_of xs))) (v + visits_of xs) (r + 1 + (length (fields_of xs) + length (faults_of xs))) ys (omega arith) q)

-- a piece that pays for itself, and a paid piece
paid_join : (xs ys : List Node) → Reports 0 xs → Paid xs → Paid ys → Paid (xs ++ ys)
paid_join xs ys a p q = record {
  paid = paid-append 0 0 xs ys p.paid (paid_more 0 0 (0 + visits_of xs) (0 + (length (fields_of xs) + length (faults_of xs))) ys (omega (arith, a.bound)) q.paid);
}

paid_flat : (f : ℕ → List Node) → ((e : ℕ) → Reports 0 (f e)) → ((e : ℕ) → Paid (f e)) → (offsets : List ℕ) → Paid (flat_map f offsets)
paid_flat f a h [] = record { paid = tt }
paid_flat f a h (e ∷ es) = paid_join (f e) (flat_map f es) (a e) (h e) (paid_flat f a h es)

paid_if : (b : Bool) (fault : Fault) → Paid (if b then [] else Met fault ∷ [])
paid_if true fault = record { paid = tt }
paid_if false fault = record { paid = tt }

paid_end : (x : Result ℕ Fault) → Paid (child_end x)
paid_end (Err fault) = record { paid = tt }
paid_end (Ok next) = paid_if (next == 0) UnexpectedNext

module _ (child : Directory) (number : Reading) (bytes : List ℕ) (a : (c : Context) (q : ℕ) → Reports 0 (child c q)) (h : (c : Context) (q : ℕ) → Paid (child c q)) where
  pointer_paid : (c : Context) (o : Option ℕ) → Paid (pointer_nodes child number bytes c o)
  pointer_paid c None = record { paid = tt }
  pointer_paid c (Some q) = paid_join (child c q) (child_end (directory_end number bytes q)) (a c q) (h c q) (paid_end (directory_end number bytes q))

  tagged_paid : (c : Context) (k p n e : ℕ) (v : Value) (o : Option Context) → Paid (tagged_nodes child number bytes c k p n e v o)
  tagged_paid c k p n e v None = record { paid = tt }
  tagged_paid c k p n e v (Some d) = pointer_paid d (number_in v 0)

  valued_paid : (c : Context) (k p n e : ℕ) (o : Option Value) → Paid (valued_nodes child number bytes c k p n e o)
  valued_paid c k p n e None = record { paid = tt }
  valued_paid c k p n e (Some v) = tagged_paid c k p n e v (child_of c n)

  entry_paid : (c : Context) (k p e : ℕ) → Paid (entry_nodes child number bytes c k p e)
  entry_paid c k p e =
      let v = valued_paid c k p (number_at number 2 bytes e) e (entry_value number bytes e) in
      record {
        paid = (omega arith, paid_more 0 0 1 0 (valued_nodes child number bytes c k p (number_at number 2 bytes e) e (entry_value number bytes e)) (omega arith) v.paid);
      }

directory_paid : (d : ℕ) (number : Reading) (bytes : List ℕ) (k : ℕ) (c : Context) (p : ℕ) → Paid (directory_nodes d number bytes k c p)
directory_paid zero number bytes k c p = record { paid = tt }
directory_paid (suc d) number bytes k c p =
    let child : Directory = directory_nodes d number bytes k in
    let entries = paid_flat (entry_nodes child number bytes c k p)
    (entry_reports child number bytes (directory_reports d number bytes k) c k p)
    (entry_paid child number bytes (directory_reports d number bytes k) (directory_paid d number bytes k) c k p)
    (entry_offsets number bytes p) in
    record { paid = entries.paid }

after_paid : (rest : ℕ → List Node) (x : Result ℕ Fault) → ((p : ℕ) → Paid (rest p)) → Paid (chain_after rest x)
after_paid rest (Err fault) h = record { paid = tt }
after_paid rest (Ok next) h = h next

either_paid : (b : Bool) (nodes : List Node) → Paid nodes → Paid (elim b as (λ _. List Node) [ true ↦ [] | false ↦ nodes ])
either_paid true nodes h = record { paid = tt }
either_paid false nodes h = h

chain_paid : (left : ℕ) (number : Reading) (bytes : List ℕ) (k p : ℕ) → Paid (chain_nodes left number bytes k p)
chain_paid zero number bytes k p = paid_if (p == 0) TooManyDirectories
chain_paid (suc left) number bytes k p =
    either_paid (p == 0) (directory_nodes 3 number bytes k Tiff p ++ chain_after (chain_nodes left number bytes (k + 1)) (directory_end number bytes p))
    (paid_join (directory_nodes 3 number bytes k Tiff p) (chain_after (chain_nodes left number bytes (k + 1)) (directory_end number bytes p))
    (directory_reports 3 number bytes k Tiff p) (directory_paid 3 number bytes k Tiff p)
    (after_paid (chain_nodes left number bytes (k + 1)) (directory_end number bytes p) (chain_paid left number bytes (k + 1))))

by_header : (x : Result Order Fault) (bytes : List ℕ) → Paid (elim x [ Ok order ↦ ordered_trace (number_of order) bytes | Err fault ↦ [] ])
unfolding ordered_trace
by_header (Err fault) bytes = record { paid = tt }
by_header (Ok order) bytes = chain_paid 8 (number_of order) bytes 0 (number_at (number_of order) 4 bytes 4)

-- a paid trace has no more fields and faults than visits and one, also where it is cut
cut_reports : (n v r : ℕ) (nodes : List Node) → PaidFrom v r nodes → r + (length (fields_of nodes) + length (faults_of nodes)) ≤ v + visits_of nodes + 1
    → r + (length (fields_of (cut n nodes)) + length (faults_of (cut n nodes))) ≤ v + visits_of (cut n nodes) + 1
cut_reports n v r [] p all = all
cut_reports n v r (Opens directory ∷ nodes) p all = cut_reports n v r nodes p all
cut_reports zero v r (Visit ∷ nodes) p all = omega (arith, p.0)
cut_reports (suc n) v r (Visit ∷ nodes) p all = omega (arith, cut_reports n (v + 1) r nodes p.1 (omega arith))
cut_reports n v r (Found l ∷ nodes) p all = omega (arith, cut_reports n v (r + 1) nodes p (omega arith))
cut_reports n v r (Met fault ∷ nodes) p all = omega (arith, cut_reports n v (r + 1) nodes p (omega arith))

trace_paid : (bytes : List ℕ) → PaidFrom 0 0 (trace bytes)
unfolding trace
trace_paid bytes = (by_header (header bytes) bytes).paid

-- fields and faults are at most one more than the visits, under any limit or none
pub reports_bounded_under : (limit : Option ℕ) (bytes : List ℕ) → ReportsAreBoundedUnder limit bytes
reports_bounded_under None bytes = (trace_reports bytes).bound
reports_bounded_under (Some n) bytes = omega (arith, cut_reports n 0 0 (trace bytes) (trace_paid bytes) (omega (arith, (trace_reports bytes).bound)))

-- a limit of n leaves at most n + 1 fields and faults together
pub limit_bounds : (n : ℕ) (bytes : List ℕ) → LimitBoundsReports n bytes
limit_bounds n bytes = omega (arith, reports_bounded_under (Some n) bytes, visits_limited n (trace bytes))

-- and, of data that are bytes, at most one more than the visits that their length allows
pub limit_and_length_bound : (n : ℕ) (bytes : List ℕ) → LimitAndLengthBoundReports n bytes
limit_and_length_bound n bytes h = omega (arith, reports_bounded_under (Some n) bytes, visits_limited n (trace bytes), visits_bounded bytes h)
