-- The bound on the visited entries.
use Rattle.std.proofs.Common.{◌≡◌, ◌≤◌, ◌+◌, ◌*◌, ◌==◌, ℕ, zero, suc, Bool, true, false, List, [], ◌∷◌, ◌++◌, length, drop, Option, Some, None, Result, Ok, Err, refl, arith}
use Rattle.std.proofs.Math.Nat.{mul-le-mul_right, mul-add, add-mul, mul_assoc, mul-one, le_trans}
use Rattle.std.proofs.lemmas.List.{get_or-drop}
use Rattle.std.specs.List.{flat_map}
use Rattle.byteorder.specs.Numbers.{big_from-lt, little_from-lt}
use Rattle.exif_base.specs.Bytes.{Reading, number_at, spaced}
use Rattle.exif_base.specs.Orders.{number_of}
use Rattle.exif_types.specs.Numbers.{number_in}
use Rattle.exif_types.specs.declared.value.Value.{Value}
use Rattle.exif_tiff.specs.declared.fault.Fault.{Fault}
use Rattle.exif_tiff.specs.declared.fault.Fault.TheVariants.{UnexpectedNext, TooManyDirectories}
use Rattle.std.specs.Prelude.{if◌then◌else◌}
use Rattle.exif_base.specs.declared.endian.Order.{Order}
use Rattle.exif_base.specs.declared.endian.Order.TheVariants.{Big, Little}
use Rattle.exif_table.specs.declared.context.Context.{Context}
use Rattle.exif_table.specs.declared.context.Context.TheVariants.{Tiff}
use Rattle.exif_tiff.specs.Trace.{Node, Visit, Found, Met, Directory, valued_nodes, visits_of, trace, ordered_trace, header, chain_nodes, chain_after, directory_nodes, directory_end, entry_nodes, entry_offsets, entry_value, whole_entries, tagged_nodes, pointer_nodes, child_end, child_of, Opens}
use Rattle.exif_tiff.specs.Visits.{AreBytes, entries_at_most, visits_at_most, VisitsAreBounded}

-- visits of two lists add up
pub visits-append : (xs ys : List Node) → visits_of (xs ++ ys) ≡ visits_of xs + visits_of ys
visits-append [] ys = omega arith
visits-append (Opens directory ∷ xs) ys = visits-append xs ys
visits-append (Visit ∷ xs) ys = omega (arith, visits-append xs ys)
visits-append (Found l ∷ xs) ys = visits-append xs ys
visits-append (Met fault ∷ xs) ys = visits-append xs ys

-- as many offsets as were asked for
pub length-spaced : (p u n : ℕ) → length (spaced p u n) ≡ n
length-spaced p u zero = refl
length-spaced p u (suc n) = omega (arith, length-spaced (p + u) u n)

-- pieces with at most b visits each
visits_flat : (f : ℕ → List Node) (b : ℕ) → ((e : ℕ) → visits_of (f e) ≤ b) → (offsets : List ℕ) → visits_of (flat_map f offsets) ≤ length offsets * b
visits_flat f b h [] = omega arith
visits_flat f b h (e ∷ es) =
    let one = h e in
    let rest = visits_flat f b h es in
    let m = add-mul (length es) 1 b in
    omega (arith, visits-append (f e) (flat_map f es), one, rest, m)

if_none : (b : Bool) (fault : Fault) → visits_of (if b then [] else Met fault ∷ []) ≡ 0
if_none true fault = refl
if_none false fault = refl

child_end_visits : (x : Result ℕ Fault) → visits_of (child_end x) ≡ 0
child_end_visits (Err fault) = refl
child_end_visits (Ok next) = if_none (next == 0) UnexpectedNext

module _ (child : Directory) (number : Reading) (bytes : List ℕ) (b : ℕ) (h : (c : Context) (q : ℕ) → visits_of (child c q) ≤ b) where
  pointer_visits : (c : Context) (o : Option ℕ) → visits_of (pointer_nodes child number bytes c o) ≤ b
  pointer_visits c None = omega arith
  pointer_visits c (Some q) =
      omega (arith, h c q, visits-append (child c q) (child_end (directory_end number bytes q)), child_end_visits (directory_end number bytes q))

  tagged_visits : (c : Context) (k p n e : ℕ) (v : Value) (o : Option Context) → visits_of (tagged_nodes child number bytes c k p n e v o) ≤ b
  tagged_visits c k p n e v None = omega arith
  tagged_visits c k p n e v (Some d) = pointer_visits d (number_in v 0)

  valued_visits : (c : Context) (k p n e : ℕ) (o : Option Value) → visits_of (valued_nodes child number bytes c k p n e o) ≤ b
  valued_visits c k p n e None = omega arith
  valued_visits c k p n e (Some v) = tagged_visits c k p n e v (child_of c n)

  entry_visits : (c : Context) (k p e : ℕ) → visits_of (entry_nodes child number bytes c k p e) ≤ b + 1
  entry_visits c k p e =
      let v = valued_visits c k p (number_at number 2 bytes e) e (entry_value number bytes e) in omega arith

-- entries, and b visits for each
abbrev level : ℕ → ℕ → ℕ
level n zero = 0
level n (suc d) = n * (level n d + 1)

-- a reading whose numbers of two bytes are below 2 ^ 16
abbrev ShortReading : Reading → List ℕ → Type 0
ShortReading number bytes = (p : ℕ) → number_at number 2 bytes p ≤ 65535

whole_bound : (number : Reading) (bytes : List ℕ) (p : ℕ) → ShortReading number bytes → whole_entries number bytes p ≤ entries_at_most bytes
whole_bound number bytes p s = let k = s p in omega arith

directory_visits : (d : ℕ) (number : Reading) (bytes : List ℕ) (k : ℕ) → ShortReading number bytes → (c : Context) (p : ℕ) → visits_of (directory_nodes d number bytes k c p) ≤ level (entries_at_most bytes) d
directory_visits zero number bytes k s c p = omega arith
directory_visits (suc d) number bytes k s c p =
    let b = level (entries_at_most bytes) d in
    let flat = visits_flat (entry_nodes (directory_nodes d number bytes k) number bytes c k p) (b + 1) (entry_visits (directory_nodes d number bytes k) number bytes b (directory_visits d number bytes k s) c k p) (entry_offsets number bytes p) in
    let many = mul-le-mul_right (b + 1) (whole_bound number bytes p s) in
    let short = rw (length-spaced (p + 2) 12 (whole_entries number bytes p)) at flat in
    le_trans short many

-- what comes after a directory, where the rest of the chain is bounded
after_visits : (b : ℕ) (rest : ℕ → List Node) (x : Result ℕ Fault) → ((p : ℕ) → visits_of (rest p) ≤ b) → visits_of (chain_after rest x) ≤ b
after_visits b rest (Err fault) h = omega arith
after_visits b rest (Ok next) h = h next

-- either branch of a chain
either_visits : (b : Bool) (n : ℕ) (nodes : List Node) → visits_of nodes ≤ n → visits_of (elim b as (λ _. List Node) [ true ↦ [] | false ↦ nodes ]) ≤ n
either_visits true n nodes h = omega arith
either_visits false n nodes h = h

-- a chain of so many directories
chain_visits : (left : ℕ) (number : Reading) (bytes : List ℕ) (k : ℕ) → ShortReading number bytes → (p : ℕ) → visits_of (chain_nodes left number bytes k p) ≤ left * level (entries_at_most bytes) 3
chain_visits zero number bytes k s p = omega (arith, if_none (p == 0) TooManyDirectories)
chain_visits (suc left) number bytes k s p =
    let here = directory_visits 3 number bytes k s Tiff p in
    let rest = after_visits (left * level (entries_at_most bytes) 3) (chain_nodes left number bytes (k + 1)) (directory_end number bytes p) (chain_visits left number bytes (k + 1) s) in
    let both = visits-append (directory_nodes 3 number bytes k Tiff p) (chain_after (chain_nodes left number bytes (k + 1)) (directory_end number bytes p)) in
    let many = add-mul left 1 (level (entries_at_most bytes) 3) in
    either_visits (p == 0) (suc left * level (entries_at_most bytes) 3) (directory_nodes 3 number bytes k Tiff p ++ chain_after (chain_nodes left number bytes (k + 1)) (directory_end number bytes p)) (omega (arith, here, rest, both, many))

-- three levels of entries
level_three : (n : ℕ) → level n 3 ≡ n + n * n + n * n * n
level_three n = simp (mul-add, mul-one, mul_assoc) (omega arith)

drop_bytes : (bytes : List ℕ) (p : ℕ) → AreBytes bytes → AreBytes (drop p bytes)
drop_bytes bytes p h i = rw get_or-drop (h (p + i))

short_reading : (order : Order) (bytes : List ℕ) → AreBytes bytes → ShortReading (number_of order) bytes
short_reading Big bytes h p = let k = big_from-lt 0 2 (drop p bytes) (drop_bytes bytes p h) in omega arith
short_reading Little bytes h p = let k = little_from-lt 0 2 (drop p bytes) (drop_bytes bytes p h) in omega arith

by_header : (x : Result Order Fault) (bytes : List ℕ) → AreBytes bytes → visits_of (elim x [ Ok order ↦ ordered_trace (number_of order) bytes | Err fault ↦ [] ]) ≤ visits_at_most bytes
unfolding ordered_trace
by_header (Err fault) bytes h = omega arith
by_header (Ok order) bytes h =
    let c = chain_visits 8 (number_of order) bytes 0 (short_reading order bytes h) (number_at (number_of order) 4 bytes 4) in
    rw (level_three (entries_at_most bytes)) at c

-- the length of data that are bytes bounds how many entries are visited
pub visits_bounded : (bytes : List ℕ) → VisitsAreBounded bytes
unfolding trace
visits_bounded bytes h = by_header (header bytes) bytes h
