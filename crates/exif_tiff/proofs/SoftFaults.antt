-- The faults behind a header are soft, and those of a header are hard.
use Rattle.std.proofs.Common.{◌≡◌, ◌∙◌, ◌+◌, ◌*◌, ◌-◌, ◌/◌, ◌==◌, ◌⊎◌, inl, inr, ℕ, zero, suc, Bool, true, false, List, [], ◌∷◌, ◌++◌, length, Option, Some, None, Result, Ok, Err, refl, sym, ap, subst}
use Rattle.std.specs.List.{AllByRecursion, flat_map, All}
use Rattle.std.specs.Prelude.{◌^◌, if◌then◌else◌, ⊤, nat_lt}
use Rattle.std.proofs.lemmas.Bool.{lt-ltb, ltb-true}
use Rattle.std.proofs.lemmas.List.Elements.{All-from_recursion}
use Rattle.exif_base.specs.Bytes.{Reading, number_at}
use Rattle.exif_base.specs.Orders.{number_of}
use Rattle.exif_base.specs.declared.endian.Order.{Order}
use Rattle.exif_types.specs.Numbers.{number_in}
use Rattle.exif_types.specs.declared.value.Value.{Value}
use Rattle.exif_table.specs.declared.context.Context.{Context}
use Rattle.exif_table.specs.declared.context.Context.TheVariants.{Tiff}
use Rattle.exif_types.specs.declared.field.Field.{Field}
use Rattle.exif_tiff.specs.declared.fault.Fault.{Fault}
use Rattle.exif_tiff.specs.declared.fault.Fault.TheVariants.{DataTooLarge, TruncatedHeader, InvalidByteOrder, InvalidFortyTwo, TruncatedCount, TruncatedDirectory, TruncatedNextOffset, TruncatedValue, InvalidPointer, UnexpectedNext, TooManyDirectories, TooManyEntries}
use Rattle.exif_tiff.specs.Trace.{Node, Visit, Found, Met, Directory, fields_of, faults_of, cut, limited, content_of, trace, ordered_trace, header, order_of, chain_nodes, chain_after, directory_nodes, directory_end, entry_nodes, entry_offsets, entry_value, valued_nodes, tagged_nodes, pointer_nodes, child_end, child_of, Opens}
use Rattle.exif_tiff.specs.Answers.{Answer, Refused, Partial, answer_of, raw_answer}
use Rattle.exif_tiff.specs.SoftFaults.{is_hard, is_soft, is_soft_under, FaultsAreSoft, FaultsAreSoftUnder, PassesSoftFaults, RefusesHardOrSoft, HeaderFaultsAreHard, TooLargeIsExact}
use Rattle.exif_tiff.proofs.Members.{all_append}

-- a node that is no fault but a soft one
abbrev IsSoftNode : Node → Type 0
IsSoftNode (Opens directory) = ⊤
IsSoftNode Visit = ⊤
IsSoftNode (Found l) = ⊤
IsSoftNode (Met fault) = is_soft fault ≡ true

-- a directory's end with no fault but a soft one
abbrev IsSoftEnd : Result ℕ Fault → Type 0
IsSoftEnd (Err fault) = is_soft fault ≡ true
IsSoftEnd (Ok next) = ⊤

record AreSoft (nodes : List Node) : Type 0 where
  each : AllByRecursion IsSoftNode nodes

soft_join : (xs ys : List Node) → AreSoft xs → AreSoft ys → AreSoft (xs ++ ys)
soft_join xs ys a b = record { each = all_append IsSoftNode xs ys a.each b.each }

soft_flat : (f : ℕ → List Node) → ((e : ℕ) → AreSoft (f e)) → (offsets : List ℕ) → AreSoft (flat_map f offsets)
soft_flat f h [] = record { each = tt }
soft_flat f h (e ∷ es) = soft_join (f e) (flat_map f es) (h e) (soft_flat f h es)

soft_if : (b : Bool) (fault : Fault) → is_soft fault ≡ true → AreSoft (if b then [] else Met fault ∷ [])
soft_if true fault h = record { each = tt }
soft_if false fault h = record { each = (h, tt) }

soft_else : (b : Bool) (fault : Fault) (rest : Result ℕ Fault) → is_soft fault ≡ true → IsSoftEnd rest → IsSoftEnd (if b then Err fault else rest)
soft_else true fault rest h k = h
soft_else false fault rest h k = k

end_soft : (number : Reading) (bytes : List ℕ) (p : ℕ) → IsSoftEnd (directory_end number bytes p)
end_soft number bytes p =
    let count : ℕ = number_at number 2 bytes p in
    let next : Result ℕ Fault = Ok (number_at number 4 bytes (p + 2 + 12 * count)) in
    soft_else (nat_lt (length bytes) (p + 2)) TruncatedCount _ refl
    (soft_else (nat_lt ((length bytes - p - 2) / 12) count) TruncatedDirectory _ refl
    (soft_else (nat_lt (length bytes) (p + 2 + 12 * count + 4)) TruncatedNextOffset next refl tt))

child_soft : (x : Result ℕ Fault) → IsSoftEnd x → AreSoft (child_end x)
child_soft (Err fault) h = record { each = (h, tt) }
child_soft (Ok next) h = soft_if (next == 0) UnexpectedNext refl

module _ (child : Directory) (number : Reading) (bytes : List ℕ) (h : (c : Context) (q : ℕ) → AreSoft (child c q)) where
  pointer_soft : (c : Context) (o : Option ℕ) → AreSoft (pointer_nodes child number bytes c o)
  pointer_soft c None = record { each = (refl, tt) }
  pointer_soft c (Some q) = soft_join (child c q) (child_end (directory_end number bytes q)) (h c q) (child_soft (directory_end number bytes q) (end_soft number bytes q))

  tagged_soft : (c : Context) (k p n e : ℕ) (v : Value) (o : Option Context) → AreSoft (tagged_nodes child number bytes c k p n e v o)
  tagged_soft c k p n e v None = record { each = (tt, tt) }
  tagged_soft c k p n e v (Some d) = pointer_soft d (number_in v 0)

  valued_soft : (c : Context) (k p n e : ℕ) (o : Option Value) → AreSoft (valued_nodes child number bytes c k p n e o)
  valued_soft c k p n e None = record { each = (refl, tt) }
  valued_soft c k p n e (Some v) = tagged_soft c k p n e v (child_of c n)

  entry_soft : (c : Context) (k p e : ℕ) → AreSoft (entry_nodes child number bytes c k p e)
  entry_soft c k p e = record { each = (tt, (valued_soft c k p (number_at number 2 bytes e) e (entry_value number bytes e)).each) }

directory_soft : (d : ℕ) (number : Reading) (bytes : List ℕ) (k : ℕ) (c : Context) (p : ℕ) → AreSoft (directory_nodes d number bytes k c p)
directory_soft zero number bytes k c p = record { each = (tt, tt) }
directory_soft (suc d) number bytes k c p =
    let child : Directory = directory_nodes d number bytes k in
    let entries = soft_flat (entry_nodes child number bytes c k p)
    (entry_soft child number bytes (directory_soft d number bytes k) c k p) (entry_offsets number bytes p) in
    record { each = (tt, entries.each) }

after_soft : (rest : ℕ → List Node) (x : Result ℕ Fault) → IsSoftEnd x → ((p : ℕ) → AreSoft (rest p)) → AreSoft (chain_after rest x)
after_soft rest (Err fault) e h = record { each = (e, tt) }
after_soft rest (Ok next) e h = h next

either_soft : (b : Bool) (nodes : List Node) → AreSoft nodes → AreSoft (elim b as (λ _. List Node) [ true ↦ [] | false ↦ nodes ])
either_soft true nodes h = record { each = tt }
either_soft false nodes h = h

chain_soft : (left : ℕ) (number : Reading) (bytes : List ℕ) (k p : ℕ) → AreSoft (chain_nodes left number bytes k p)
chain_soft zero number bytes k p = soft_if (p == 0) TooManyDirectories refl
chain_soft (suc left) number bytes k p =
    either_soft (p == 0) (directory_nodes 3 number bytes k Tiff p ++ chain_after (chain_nodes left number bytes (k + 1)) (directory_end number bytes p))
    (soft_join (directory_nodes 3 number bytes k Tiff p) (chain_after (chain_nodes left number bytes (k + 1)) (directory_end number bytes p))
    (directory_soft 3 number bytes k Tiff p)
    (after_soft (chain_nodes left number bytes (k + 1)) (directory_end number bytes p) (end_soft number bytes p) (chain_soft left number bytes (k + 1))))

by_header : (x : Result Order Fault) (bytes : List ℕ) → AreSoft (elim x [ Ok order ↦ ordered_trace (number_of order) bytes | Err fault ↦ [] ])
unfolding ordered_trace
by_header (Err fault) bytes = record { each = tt }
by_header (Ok order) bytes = chain_soft 8 (number_of order) bytes 0 (number_at (number_of order) 4 bytes 4)

trace_soft : (bytes : List ℕ) → AllByRecursion IsSoftNode (trace bytes)
unfolding trace
trace_soft bytes = (by_header (header bytes) bytes).each

soft_faults : (nodes : List Node) → AllByRecursion IsSoftNode nodes → AllByRecursion (λ fault. is_soft fault ≡ true) (faults_of nodes)
soft_faults [] h = tt
soft_faults (Opens directory ∷ nodes) h = soft_faults nodes h.1
soft_faults (Visit ∷ nodes) h = soft_faults nodes h.1
soft_faults (Found l ∷ nodes) h = soft_faults nodes h.1
soft_faults (Met fault ∷ nodes) h = (h.0, soft_faults nodes h.1)

-- each fault of a trace is soft, one after the other
pub each_soft : (bytes : List ℕ) → AllByRecursion (λ fault. is_soft fault ≡ true) (faults_of (trace bytes))
each_soft bytes = soft_faults (trace bytes) (trace_soft bytes)

-- so all faults that data hold behind their header are soft
pub faults_soft : (bytes : List ℕ) → FaultsAreSoft bytes
faults_soft bytes = All-from_recursion (λ fault. is_soft fault ≡ true) (faults_of (trace bytes)) (each_soft bytes)

-- what is soft without a limit is soft under any
soft_under : (limit : Option ℕ) (fault : Fault) → is_soft fault ≡ true → is_soft_under limit fault ≡ true
soft_under limit DataTooLarge h = h
soft_under limit TruncatedHeader h = h
soft_under limit InvalidByteOrder h = h
soft_under limit InvalidFortyTwo h = h
soft_under limit TruncatedCount h = h
soft_under limit TruncatedDirectory h = h
soft_under limit TruncatedNextOffset h = h
soft_under limit TruncatedValue h = h
soft_under limit InvalidPointer h = h
soft_under limit UnexpectedNext h = h
soft_under limit TooManyDirectories h = h
soft_under limit TooManyEntries h = absurd cc

cut_soft : (limit n : ℕ) (nodes : List Node) → AllByRecursion IsSoftNode nodes → AllByRecursion (λ fault. is_soft_under (Some limit) fault ≡ true) (faults_of (cut n nodes))
cut_soft limit n [] h = tt
cut_soft limit n (Opens directory ∷ nodes) h = cut_soft limit n nodes h.1
cut_soft limit zero (Visit ∷ nodes) h = (refl, tt)
cut_soft limit (suc n) (Visit ∷ nodes) h = cut_soft limit n nodes h.1
cut_soft limit n (Found l ∷ nodes) h = cut_soft limit n nodes h.1
cut_soft limit n (Met fault ∷ nodes) h = (soft_under (Some limit) fault h.0, cut_soft limit n nodes h.1)

all_under : (limit : Option ℕ) (faults : List Fault) → AllByRecursion (λ fault. is_soft fault ≡ true) faults → AllByRecursion (λ fault. is_soft_under limit fault ≡ true) faults
all_under limit [] h = tt
all_under limit (fault ∷ faults) h = (soft_under limit fault h.0, all_under limit faults h.1)

each_soft_under : (limit : Option ℕ) (bytes : List ℕ) → AllByRecursion (λ fault. is_soft_under limit fault ≡ true) (faults_of (limited limit (trace bytes)))
each_soft_under None bytes = all_under None (faults_of (trace bytes)) (each_soft bytes)
each_soft_under (Some n) bytes = cut_soft n n (trace bytes) (trace_soft bytes)

-- under a limit they are so too, where the fault of the limit counts as soft
pub faults_soft_under : (limit : Option ℕ) (bytes : List ℕ) → FaultsAreSoftUnder limit bytes
faults_soft_under limit bytes = All-from_recursion (λ fault. is_soft_under limit fault ≡ true) (faults_of (limited limit (trace bytes))) (each_soft_under limit bytes)

-- what is answered behind a good header, and a bad one
pub answer_behind : (lenient : Bool) (limit : Option ℕ) (bytes : List ℕ) (order : Order) → header bytes ≡ Ok order
    → raw_answer lenient limit bytes ≡ answer_of lenient (content_of (limited limit (trace bytes)))
unfolding raw_answer trace
answer_behind lenient limit bytes order h =
    (λ i. elim (h i) as (λ _. Answer) [ Err fault ↦ Refused fault | Ok read ↦ answer_of lenient (content_of (limited limit (ordered_trace (number_of read) bytes))) ])
    ∙ ap (λ nodes. answer_of lenient (content_of (limited limit nodes)))
    (λ i. elim (sym h i) as (λ _. List Node) [ Ok read ↦ ordered_trace (number_of read) bytes | Err fault ↦ [] ])

-- data with a bad header are refused with its fault, in both modes, under any limit
pub answer_refused : (lenient : Bool) (limit : Option ℕ) (bytes : List ℕ) (fault : Fault) → header bytes ≡ Err fault → raw_answer lenient limit bytes ≡ Refused fault
unfolding raw_answer
answer_refused lenient limit bytes fault h =
    λ i. elim (h i) as (λ _. Answer) [ Err fault ↦ Refused fault | Ok read ↦ answer_of lenient (content_of (limited limit (ordered_trace (number_of read) bytes))) ]

-- behind a bad header the trace is empty
pub trace_refused : (bytes : List ℕ) (fault : Fault) → header bytes ≡ Err fault → trace bytes ≡ []
unfolding trace
trace_refused bytes fault h = λ i. elim (h i) as (λ _. List Node) [ Ok read ↦ ordered_trace (number_of read) bytes | Err fault ↦ [] ]

-- a bad header or a good one
pub headers : (bytes : List ℕ) → ((fault : Fault) × (header bytes ≡ Err fault)) ⊎ ((order : Order) × (header bytes ≡ Ok order))
headers bytes = go (header bytes) refl
  where
    go : (x : Result Order Fault) → header bytes ≡ x → ((fault : Fault) × (header bytes ≡ Err fault)) ⊎ ((order : Order) × (header bytes ≡ Ok order))
    go (Err fault) e = inl (fault, e)
    go (Ok order) e = inr (order, e)

partial_soft : (limit : Option ℕ) (fields old : List Field) (faults these : List Fault) → AllByRecursion (λ fault. is_soft_under limit fault ≡ true) these
    → answer_of true (record { fields = old; faults = these }) ≡ Partial fields faults → AllByRecursion (λ fault. is_soft_under limit fault ≡ true) faults
partial_soft limit fields old faults [] h e = absurd cc
partial_soft limit fields old faults (fault ∷ these) h e =
    let same : (fault ∷ these) ≡ faults = cc in
    subst (AllByRecursion (λ fault. is_soft_under limit fault ≡ true)) same h

-- the faults of a partial answer are soft, or that of the limit where one is set
pub passes_soft : (limit : Option ℕ) (bytes : List ℕ) → PassesSoftFaults limit bytes
passes_soft limit bytes fields faults e = go (headers bytes)
  where
    go : ((fault : Fault) × (header bytes ≡ Err fault)) ⊎ ((order : Order) × (header bytes ≡ Ok order)) → All (λ fault. is_soft_under limit fault ≡ true) faults
    go (inl h) = let k = answer_refused true limit bytes h.0 h.1 in absurd cc
    go (inr h) =
        All-from_recursion (λ fault. is_soft_under limit fault ≡ true) faults
        (partial_soft limit fields (fields_of (limited limit (trace bytes))) faults (faults_of (limited limit (trace bytes))) (each_soft_under limit bytes)
        (sym (answer_behind true limit bytes h.0 h.1) ∙ e))

refused_soft : (lenient : Bool) (limit : Option ℕ) (old : List Field) (fault : Fault) (these : List Fault) → AllByRecursion (λ fault. is_soft_under limit fault ≡ true) these
    → answer_of lenient (record { fields = old; faults = these }) ≡ Refused fault → (lenient ≡ false) × (is_soft_under limit fault ≡ true)
refused_soft true limit old fault [] h e = absurd cc
refused_soft true limit old fault (first ∷ these) h e = absurd cc
refused_soft false limit old fault [] h e = absurd cc
refused_soft false limit old fault (first ∷ these) h e =
    let same : first ≡ fault = cc in
    (refl, subst (λ (f : Fault). is_soft_under limit f ≡ true) same h.0)

-- a refusal gives the header's fault, or in strict mode a soft one or that of the limit
pub refuses : (lenient : Bool) (limit : Option ℕ) (bytes : List ℕ) → RefusesHardOrSoft lenient limit bytes
refuses lenient limit bytes fault e = go (headers bytes)
  where
    go : ((fault : Fault) × (header bytes ≡ Err fault)) ⊎ ((order : Order) × (header bytes ≡ Ok order)) → (header bytes ≡ Err fault) ⊎ ((lenient ≡ false) × (is_soft_under limit fault ≡ true))
    go (inl h) =
        let k = answer_refused lenient limit bytes h.0 h.1 in
        let same : h.0 ≡ fault = cc in
        inl (subst (λ (f : Fault). header bytes ≡ Err f) same h.1)
    go (inr h) =
        inr (refused_soft lenient limit (fields_of (limited limit (trace bytes))) fault (faults_of (limited limit (trace bytes))) (each_soft_under limit bytes)
        (sym (answer_behind lenient limit bytes h.0 h.1) ∙ e))

-- a header with no fault but a hard one
abbrev IsHardHeader : Result Order Fault → Type 0
IsHardHeader (Err fault) = is_hard fault ≡ true
IsHardHeader (Ok order) = ⊤

hard_else : (b : Bool) (fault : Fault) (rest : Result Order Fault) → is_hard fault ≡ true → IsHardHeader rest → IsHardHeader (if b then Err fault else rest)
hard_else true fault rest h k = h
hard_else false fault rest h k = k

hard_mark : (b : Bool) (order : Order) → IsHardHeader (if b then Ok order else Err InvalidFortyTwo)
hard_mark true order = tt
hard_mark false order = refl

hard_order : (o : Option Order) (bytes : List ℕ)
    → IsHardHeader (elim o as (λ _. Result Order Fault) [ None ↦ Err InvalidByteOrder | Some order ↦ if number_at (number_of order) 2 bytes 2 == 42 then Ok order else Err InvalidFortyTwo ])
hard_order None bytes = refl
hard_order (Some order) bytes = hard_mark (number_at (number_of order) 2 bytes 2 == 42) order

header_hard : (bytes : List ℕ) → IsHardHeader (header bytes)
header_hard bytes =
    hard_else (nat_lt (2 ^ 32 - 1) (length bytes)) DataTooLarge _ refl
    (hard_else (nat_lt (length bytes) 8) TruncatedHeader _ refl (hard_order (order_of bytes) bytes))

-- what is wrong with a header is always a hard fault
pub header_faults_hard : (bytes : List ℕ) → HeaderFaultsAreHard bytes
header_faults_hard bytes fault e = subst IsHardHeader e (header_hard bytes)

-- behind the first question no header is too large
abbrev IsNotTooLarge : Result Order Fault → Type 0
IsNotTooLarge x = x ≡ Err DataTooLarge → ⊥

not_large_mark : (b : Bool) (order : Order) → IsNotTooLarge (if b then Ok order else Err InvalidFortyTwo)
not_large_mark true order e = absurd cc
not_large_mark false order e = absurd cc

not_large_order : (o : Option Order) (bytes : List ℕ)
    → IsNotTooLarge (elim o as (λ _. Result Order Fault) [ None ↦ Err InvalidByteOrder | Some order ↦ if number_at (number_of order) 2 bytes 2 == 42 then Ok order else Err InvalidFortyTwo ])
not_large_order None bytes e = absurd cc
not_large_order (Some order) bytes e = not_large_mark (number_at (number_of order) 2 bytes 2 == 42) order e

not_large_short : (b : Bool) (rest : Result Order Fault) → IsNotTooLarge rest → IsNotTooLarge (if b then Err TruncatedHeader else rest)
not_large_short true rest h e = absurd cc
not_large_short false rest h e = h e

large : (b : Bool) (rest : Result Order Fault) → IsNotTooLarge rest → (if b then Err DataTooLarge else rest) ≡ Err DataTooLarge → b ≡ true
large true rest h e = refl
large false rest h e = absurd (h e)

-- a header is too large exactly where the data have 2^32 bytes or more
pub too_large_exact : (bytes : List ℕ) → TooLargeIsExact bytes
too_large_exact bytes = (
  λ e. ltb-true (2 ^ 32 - 1) (length bytes)
      (large (nat_lt (2 ^ 32 - 1) (length bytes)) _ (not_large_short (nat_lt (length bytes) 8) _ (not_large_order (order_of bytes) bytes)) e),
  λ h. let long : nat_lt (2 ^ 32 - 1) (length bytes) ≡ true = lt-ltb (2 ^ 32 - 1) (length bytes) h in rw long refl,
)
