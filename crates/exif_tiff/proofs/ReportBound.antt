-- Fields and faults beside visits.
use Rattle.std.proofs.Common.{◌≡◌, ◌≤◌, ◌+◌, ◌==◌, ℕ, zero, suc, Bool, true, false, List, [], ◌∷◌, ◌++◌, length, Option, Some, None, Result, Ok, Err, refl, ap, arith}
use Rattle.std.proofs.lemmas.List.{length-append}
use Rattle.std.specs.List.{flat_map}
use Rattle.std.specs.Prelude.{if◌then◌else◌}
use Rattle.exif_base.specs.Bytes.{Reading, number_at}
use Rattle.exif_base.specs.Orders.{number_of}
use Rattle.exif_types.specs.Numbers.{number_in}
use Rattle.exif_types.specs.declared.value.Value.{Value}
use Rattle.exif_tiff.specs.declared.fault.Fault.{Fault}
use Rattle.exif_tiff.specs.declared.fault.Fault.TheVariants.{UnexpectedNext, TooManyDirectories}
use Rattle.exif_base.specs.declared.endian.Order.{Order}
use Rattle.exif_table.specs.declared.context.Context.{Context}
use Rattle.exif_table.specs.declared.context.Context.TheVariants.{Tiff}
use Rattle.exif_tiff.specs.Trace.{Node, Visit, Found, Met, Directory, visits_of, fields_of, faults_of, trace, ordered_trace, header, chain_nodes, chain_after, directory_nodes, directory_end, entry_nodes, entry_offsets, entry_value, valued_nodes, tagged_nodes, pointer_nodes, child_end, child_of, Opens}
use Rattle.exif_tiff.specs.Visits.{ReportsAreBounded}
use Rattle.exif_tiff.proofs.VisitBound.{visits-append}

-- the fields of two pieces of a trace are those of the first, then those of the second
pub fields-append : (xs ys : List Node) → fields_of (xs ++ ys) ≡ fields_of xs ++ fields_of ys
fields-append [] ys = refl
fields-append (Opens directory ∷ xs) ys = fields-append xs ys
fields-append (Visit ∷ xs) ys = fields-append xs ys
fields-append (Found l ∷ xs) ys = ap (λ fs. l.field ∷ fs) (fields-append xs ys)
fields-append (Met fault ∷ xs) ys = fields-append xs ys

-- and so are the faults
pub faults-append : (xs ys : List Node) → faults_of (xs ++ ys) ≡ faults_of xs ++ faults_of ys
faults-append [] ys = refl
faults-append (Opens directory ∷ xs) ys = faults-append xs ys
faults-append (Visit ∷ xs) ys = faults-append xs ys
faults-append (Found l ∷ xs) ys = faults-append xs ys
faults-append (Met fault ∷ xs) ys = ap (λ fs. fault ∷ fs) (faults-append xs ys)

-- fields and faults are at most the visits and k
pub record Reports (k : ℕ) (nodes : List Node) : Type 0 where
  pub bound : length (fields_of nodes) + length (faults_of nodes) ≤ visits_of nodes + k

reports_join : (i j k : ℕ) (xs ys : List Node) → i + j ≤ k → Reports i xs → Reports j ys → Reports k (xs ++ ys)
reports_join i j k xs ys e a b = record {
  bound = rw (fields-append xs ys, faults-append xs ys) (omega (arith, visits-append xs ys, length-append (fields_of xs) (fields_of ys), length-append (faults_of xs) (faults_of ys), a.bound, b.bound));
}

reports_flat : (f : ℕ → List Node) → ((e : ℕ) → Reports 0 (f e)) → (offsets : List ℕ) → Reports 0 (flat_map f offsets)
reports_flat f h [] = record { bound = omega arith }
reports_flat f h (e ∷ es) = reports_join 0 0 0 (f e) (flat_map f es) (omega arith) (h e) (reports_flat f h es)

if_reports : (b : Bool) (fault : Fault) → Reports 1 (if b then [] else Met fault ∷ [])
if_reports true fault = record { bound = omega arith }
if_reports false fault = record { bound = omega arith }

child_end_reports : (x : Result ℕ Fault) → Reports 1 (child_end x)
child_end_reports (Err fault) = record { bound = omega arith }
child_end_reports (Ok next) = if_reports (next == 0) UnexpectedNext

module _ (child : Directory) (number : Reading) (bytes : List ℕ) (h : (c : Context) (q : ℕ) → Reports 0 (child c q)) where
  pointer_reports : (c : Context) (o : Option ℕ) → Reports 1 (pointer_nodes child number bytes c o)
  pointer_reports c None = record { bound = omega arith }
  pointer_reports c (Some q) = reports_join 0 1 1 (child c q) (child_end (directory_end number bytes q)) (omega arith) (h c q) (child_end_reports (directory_end number bytes q))

  tagged_reports : (c : Context) (k p n e : ℕ) (v : Value) (o : Option Context) → Reports 1 (tagged_nodes child number bytes c k p n e v o)
  tagged_reports c k p n e v None = record { bound = omega arith }
  tagged_reports c k p n e v (Some d) = pointer_reports d (number_in v 0)

  valued_reports : (c : Context) (k p n e : ℕ) (o : Option Value) → Reports 1 (valued_nodes child number bytes c k p n e o)
  valued_reports c k p n e None = record { bound = omega arith }
  valued_reports c k p n e (Some v) = tagged_reports c k p n e v (child_of c n)

  -- where no child has more fields and faults than visits, an entry has no more either
  pub entry_reports : (c : Context) (k p e : ℕ) → Reports 0 (entry_nodes child number bytes c k p e)
  entry_reports c k p e =
      let v = valued_reports c k p (number_at number 2 bytes e) e (entry_value number bytes e) in
      record { bound = omega (arith, v.bound) }

-- a directory with its children has no more fields and faults than visits
pub directory_reports : (d : ℕ) (number : Reading) (bytes : List ℕ) (k : ℕ) (c : Context) (p : ℕ) → Reports 0 (directory_nodes d number bytes k c p)
directory_reports zero number bytes k c p = record { bound = omega arith }
directory_reports (suc d) number bytes k c p =
    let child : Directory = directory_nodes d number bytes k in
    let entries = reports_flat (entry_nodes child number bytes c k p)
    (entry_reports child number bytes (directory_reports d number bytes k) c k p) (entry_offsets number bytes p) in
    record { bound = entries.bound }

after_reports : (rest : ℕ → List Node) (x : Result ℕ Fault) → ((p : ℕ) → Reports 1 (rest p)) → Reports 1 (chain_after rest x)
after_reports rest (Err fault) h = record { bound = omega arith }
after_reports rest (Ok next) h = h next

either_reports : (b : Bool) (nodes : List Node) → Reports 1 nodes → Reports 1 (elim b as (λ _. List Node) [ true ↦ [] | false ↦ nodes ])
either_reports true nodes h = record { bound = omega arith }
either_reports false nodes h = h

chain_reports : (left : ℕ) (number : Reading) (bytes : List ℕ) (k p : ℕ) → Reports 1 (chain_nodes left number bytes k p)
chain_reports zero number bytes k p = if_reports (p == 0) TooManyDirectories
chain_reports (suc left) number bytes k p =
    either_reports (p == 0) (directory_nodes 3 number bytes k Tiff p ++ chain_after (chain_nodes left number bytes (k + 1)) (directory_end number bytes p))
    (reports_join 0 1 1 (directory_nodes 3 number bytes k Tiff p) (chain_after (chain_nodes left number bytes (k + 1)) (directory_end number bytes p)) (omega arith) (directory_reports 3 number bytes k Tiff p)
    (after_reports (chain_nodes left number bytes (k + 1)) (directory_end number bytes p) (chain_reports left number bytes (k + 1))))

by_header : (x : Result Order Fault) (bytes : List ℕ) → Reports 1 (elim x [ Ok order ↦ ordered_trace (number_of order) bytes | Err fault ↦ [] ])
unfolding ordered_trace
by_header (Err fault) bytes = record { bound = omega arith }
by_header (Ok order) bytes = chain_reports 8 (number_of order) bytes 0 (number_at (number_of order) 4 bytes 4)

-- the whole trace has at most one more of fields and faults than of visits
pub trace_reports : (bytes : List ℕ) → Reports 1 (trace bytes)
unfolding trace
trace_reports bytes = by_header (header bytes) bytes

-- hence what data report is bounded by the entries that are visited, and one
pub reports_bounded : (bytes : List ℕ) → ReportsAreBounded bytes
reports_bounded bytes = (trace_reports bytes).bound
