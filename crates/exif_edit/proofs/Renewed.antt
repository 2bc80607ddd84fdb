-- Data in which one entry has another value, and which are else as they were where reading looks,
-- are read as before but for this value.
use Rattle.std.proofs.Common.{◌≡◌, ◌+◌, ◌*◌, ◌==◌, ℕ, zero, suc, Bool, true, false, if◌then◌else◌, List, [], ◌∷◌, ◌++◌, length, map, Option, Some, None, Result, Ok, Err, refl, sym, ap, subst, arith}
use Rattle.std.specs.List.{flat_map, AllByRecursion}
use Rattle.std.proofs.lemmas.Bool.Decides.{nat_tests}
use Rattle.exif_base.specs.Bytes.{Reading, number_at}
use Rattle.exif_base.specs.Orders.{number_of}
use Rattle.exif_base.specs.declared.endian.Order.{Order}
use Rattle.exif_types.specs.Numbers.{number_in}
use Rattle.exif_types.specs.declared.field.Field.{Field}
use Rattle.exif_types.specs.declared.value.Value.{Value}
use Rattle.exif_table.specs.declared.context.Context.{Context}
use Rattle.exif_table.specs.declared.context.Context.TheVariants.{Tiff}
use Rattle.exif_tiff.specs.declared.fault.Fault.{Fault}
use Rattle.exif_tiff.specs.declared.fault.Fault.TheVariants.{TooManyDirectories, UnexpectedNext}
use Rattle.exif_tiff.specs.Footprint.{Agree, Below, named, pointed, entry_directories, directories, following, chain_directories}
use Rattle.exif_tiff.specs.Trace.{Node, Opens, Visit, Found, Met, Directory, Located, field_of, located_of, chain_after, chain_nodes, child_end, child_of, depth_of, directory_end, directory_nodes, entry_nodes, entry_offsets, entry_value, fields_of, faults_of, ordered_trace, pointer_nodes, tagged_nodes, valued_nodes, whole_entries}
use Rattle.exif_tiff.proofs.Agreement.{number_same, part_same, same_of}
use Rattle.exif_tiff.proofs.Footprints.{all_flat, end_by, offsets_by, value_same}
use Rattle.exif_tiff.proofs.Members.{all_left, all_right}
use Rattle.exif_tiff.proofs.ReportBound.{faults-append, fields-append}
use Rattle.exif_edit_base.specs.Finding.{with_value}
use Rattle.exif_edit.specs.Sharing.{all_beside, beside, other_entry}

-- a located field, with the new value if it is in the entry at e
abbrev pub renewed : ℕ → Value → Located → Field
renewed e new l = if l.entry == e then with_value new l.field else l.field

module _ (order : Order) (a b : List ℕ) (as_long : length a ≡ length b) (e : ℕ) (old new : Value)
    (was : entry_value (number_of order) a e ≡ Some old)
    (is : entry_value (number_of order) b e ≡ Some new)
    (tags : number_at (number_of order) 2 b e ≡ number_at (number_of order) 2 a e)
    (no_child : (c : Context) → child_of c (number_at (number_of order) 2 a e) ≡ None) where
  abbrev number : Reading
  number = number_of order

  abbrev fields_in : List Node → List Field
  fields_in ns = map (renewed e new) (located_of ns)

  fields_in-append : (xs ys : List Node) → fields_in (xs ++ ys) ≡ fields_in xs ++ fields_in ys
  fields_in-append [] ys = refl
  fields_in-append (Opens d ∷ xs) ys = fields_in-append xs ys
  fields_in-append (Visit ∷ xs) ys = fields_in-append xs ys
  fields_in-append (Found l ∷ xs) ys = ap (λ fs. renewed e new l ∷ fs) (fields_in-append xs ys)
  fields_in-append (Met fault ∷ xs) ys = fields_in-append xs ys

  -- the new nodes have the fields of the old ones, this one with its new value, and their faults
  abbrev pub Told : List Node → List Node → Type 0
  Told ns ms = (fields_of ms ≡ fields_in ns) × (faults_of ms ≡ faults_of ns)

  joined : (ns os ms ps : List Node) → Told ns ms → Told os ps → Told (ns ++ os) (ms ++ ps)
  joined ns os ms ps h k =
      let f0 = h.0 in
      let f1 = k.0 in
      let g0 = h.1 in
      let g1 = k.1 in (
        rw (fields-append ms ps, fields_in-append ns os, f0, f1) refl,
        rw (faults-append ms ps, faults-append ns os, g0, g1) refl,
      )

  -- a fault, or none
  fault_told : (t : Bool) (fault : Fault)
      → Told (if t then [] else Met fault ∷ []) (if t then [] else Met fault ∷ [])
  fault_told true fault = (refl, refl)
  fault_told false fault = (refl, refl)

  end_told : (x y : Result ℕ Fault) → x ≡ y → Told (child_end x) (child_end y)
  end_told x y s = subst (λ z. Told (child_end x) (child_end z)) s (by_end x)
    where
      by_end : (x : Result ℕ Fault) → Told (child_end x) (child_end x)
      by_end (Err fault) = (refl, refl)
      by_end (Ok next) = fault_told (next == 0) UnexpectedNext

  each : (f g : ℕ → List Node) (P Q : ℕ → Type 0) (ps : List ℕ)
      → ((p : ℕ) → P p → Q p → Told (f p) (g p)) → AllByRecursion P ps → AllByRecursion Q ps
      → Told (flat_map f ps) (flat_map g ps)
  each f g P Q [] t x y = (refl, refl)
  each f g P Q (p ∷ ps) t x y =
      joined (f p) (flat_map f ps) (g p) (flat_map g ps) (t p x.0 y.0) (each f g P Q ps t x.1 y.1)

  -- both agree on an entry and its value, unless it is the one at e; and on a directory but for it
  abbrev EntryAlike : ℕ → Type 0
  EntryAlike d = AllByRecursion (Agree a b) (other_entry number a e d)

  -- both agree on the directory at p and the values of its entries, but for the entry at e
  abbrev pub Alike : ℕ → Type 0
  Alike p = AllByRecursion (Agree a b) (beside number a e p)

  offsets_same : (p : ℕ) → Alike p → entry_offsets number a p ≡ entry_offsets number b p
  offsets_same p h = offsets_by order a b as_long p (same_of a b p 2 h.0)

  end_same : (p : ℕ) → Alike p → directory_end number a p ≡ directory_end number b p
  end_same p h =
      end_by order a b as_long p (same_of a b p 2 h.0)
      (same_of a b (p + 2 + 12 * whole_entries number a p) 4 h.1.0)

  -- a pointer or a field, where the directories below are known
  module _ (below : Below) (f g : Directory)
      (told : (d : Context) (q : ℕ) → AllByRecursion Alike (below d q) → Told (f d q) (g d q))
      (ends : (d : Context) (q : ℕ) → AllByRecursion Alike (below d q)
      → directory_end number a q ≡ directory_end number b q) where
    pointer_told : (d : Context) (o : Option ℕ) → AllByRecursion Alike (named below d o)
        → Told (pointer_nodes f number a d o) (pointer_nodes g number b d o)
    pointer_told d None h = (refl, refl)
    pointer_told d (Some q) h =
        joined (f d q) (child_end (directory_end number a q)) (g d q)
        (child_end (directory_end number b q)) (told d q h)
        (end_told (directory_end number a q) (directory_end number b q) (ends d q h))

    tagged_told : (c : Context) (k p n d : ℕ) (v : Value) (o : Option Context) → (d == e) ≡ false
        → AllByRecursion Alike (pointed below o (Some v))
        → Told (tagged_nodes f number a c k p n d v o) (tagged_nodes g number b c k p n d v o)
    tagged_told c k p n d v None far h =
        let field : Field = field_of c k n v in
        (ap (λ t. (if t then with_value new field else field) ∷ []) (sym far), refl)
    tagged_told c k p n d v (Some x) far h = pointer_told x (number_in v 0) h

    valued_told : (c : Context) (k p n d : ℕ) (o : Option Value) → (d == e) ≡ false
        → AllByRecursion Alike (pointed below (child_of c n) o)
        → Told (valued_nodes f number a c k p n d o) (valued_nodes g number b c k p n d o)
    valued_told c k p n d None far h = (refl, refl)
    valued_told c k p n d (Some v) far h = tagged_told c k p n d v (child_of c n) far h

    -- the entry at e
    target_by : (c : Context) (k p n m : ℕ) (x y : Option Value) → m ≡ n → x ≡ Some old
        → y ≡ Some new → child_of c n ≡ None → (e == e) ≡ true
        → Told (Visit ∷ valued_nodes f number a c k p n e x)
        (Visit ∷ valued_nodes g number b c k p m e y)
    target_by c k p n m x y s t u none at' =
        let field : Field = field_of c k n old in
        rw (s, t, u, none)
        (ap (λ z. (if z then with_value new field else field) ∷ []) (sym at'), refl)

    other_told : (c : Context) (k p d : ℕ) → (d == e) ≡ false
        → AllByRecursion (Agree a b) (other_entry number a e d)
        → AllByRecursion Alike (entry_directories below number a c d)
        → Told (entry_nodes f number a c k p d) (entry_nodes g number b c k p d)
    other_told c k p d far h ds =
        let there = rw far at h in
        let whole = same_of a b d 12 there.0 in
        let tag : number_at number 2 a d ≡ number_at number 2 b d =
        number_same order 2 a b d (part_same a b d 12 d 2 (omega arith) (omega arith) whole) in
        let value = value_same order a b as_long d whole there.1 in
        rw (← tag, ← value)
        (valued_told c k p (number_at number 2 a d) d (entry_value number a d) far ds)

    entry_told : (c : Context) (k p d : ℕ) → EntryAlike d
        → AllByRecursion Alike (entry_directories below number a c d)
        → Told (entry_nodes f number a c k p d) (entry_nodes g number b c k p d)
    entry_told c k p d h ds = by_test (d == e) refl
      where
        by_test : (t : Bool) → (d == e) ≡ t
            → Told (entry_nodes f number a c k p d) (entry_nodes g number b c k p d)
        by_test false t = other_told c k p d t h ds
        by_test true t =
            let here : d ≡ e = grind (arith, nat_tests) in
            let self : (e == e) ≡ true = rw here at t in
            rw here
            (target_by c k p (number_at number 2 a e) (number_at number 2 b e) (entry_value number a e)
            (entry_value number b e) tags was is (no_child c) self)

  -- the directory itself is the first of those below it
  first_alike : (depth : ℕ) (d : Context) (q : ℕ)
      → AllByRecursion Alike (directories depth number a d q) → Alike q
  first_alike zero d q h = h.0
  first_alike (suc depth) d q h = h.0

  directory_told : (depth k : ℕ) (c : Context) (p : ℕ)
      → AllByRecursion Alike (directories depth number a c p)
      → Told (directory_nodes depth number a k c p) (directory_nodes depth number b k c p)
  directory_told zero k c p h = (refl, refl)
  directory_told (suc depth) k c p h =
      rw (← offsets_same p h.0)
      (each (entry_nodes (directory_nodes depth number a k) number a c k p)
      (entry_nodes (directory_nodes depth number b k) number b c k p) EntryAlike
      (λ d. AllByRecursion Alike (entry_directories (directories depth number a) number a c d))
      (entry_offsets number a p)
      (λ d x y. entry_told (directories depth number a) (directory_nodes depth number a k)
      (directory_nodes depth number b k) (directory_told depth k)
      (λ x q z. end_same q (first_alike depth x q z)) c k p d x y)
      (all_flat (Agree a b) (other_entry number a e) (entry_offsets number a p) h.0.1.1)
      (all_flat Alike (entry_directories (directories depth number a) number a c)
      (entry_offsets number a p) h.1))

  after_told : (rest : ℕ → List ℕ) (f g : ℕ → List Node) (x : Result ℕ Fault)
      → ((q : ℕ) → AllByRecursion Alike (rest q) → Told (f q) (g q))
      → AllByRecursion Alike (following rest x) → Told (chain_after f x) (chain_after g x)
  after_told rest f g (Err fault) each h = (refl, refl)
  after_told rest f g (Ok next) each h = each next h

  linked_told : (left k p : ℕ)
      → ((q : ℕ) → AllByRecursion Alike (chain_directories left number a q)
      → Told (chain_nodes left number a (k + 1) q) (chain_nodes left number b (k + 1) q))
      → AllByRecursion Alike (directories (depth_of Tiff) number a Tiff p
      ++ following (chain_directories left number a) (directory_end number a p))
      → Told (directory_nodes (depth_of Tiff) number a k Tiff p
      ++ chain_after (chain_nodes left number a (k + 1)) (directory_end number a p))
      (directory_nodes (depth_of Tiff) number b k Tiff p
      ++ chain_after (chain_nodes left number b (k + 1)) (directory_end number b p))
  linked_told left k p rest h =
      let here = all_left Alike (directories (depth_of Tiff) number a Tiff p)
      (following (chain_directories left number a) (directory_end number a p)) h in
      let behind = all_right Alike (directories (depth_of Tiff) number a Tiff p)
      (following (chain_directories left number a) (directory_end number a p)) h in
      let end = end_same p (first_alike (depth_of Tiff) Tiff p here) in
      rw (← end)
      (joined (directory_nodes (depth_of Tiff) number a k Tiff p)
      (chain_after (chain_nodes left number a (k + 1)) (directory_end number a p))
      (directory_nodes (depth_of Tiff) number b k Tiff p)
      (chain_after (chain_nodes left number b (k + 1)) (directory_end number a p))
      (directory_told (depth_of Tiff) k Tiff p here)
      (after_told (chain_directories left number a) (chain_nodes left number a (k + 1))
      (chain_nodes left number b (k + 1))
      (directory_end number a p) rest behind))

  either_told : (t : Bool) (ps : List ℕ) (ns ms : List Node)
      → (AllByRecursion Alike ps → Told ns ms) → AllByRecursion Alike (if t then [] else ps)
      → Told (elim t as (λ _. List Node) [ true ↦ [] | false ↦ ns ])
      (elim t as (λ _. List Node) [ true ↦ [] | false ↦ ms ])
  either_told true ps ns ms each h = (refl, refl)
  either_told false ps ns ms each h = each h

  chain_told : (left k p : ℕ) → AllByRecursion Alike (chain_directories left number a p)
      → Told (chain_nodes left number a k p) (chain_nodes left number b k p)
  chain_told zero k p h = fault_told (p == 0) TooManyDirectories
  chain_told (suc left) k p h =
      either_told (p == 0)
      (directories (depth_of Tiff) number a Tiff p
      ++ following (chain_directories left number a) (directory_end number a p))
      (directory_nodes (depth_of Tiff) number a k Tiff p
      ++ chain_after (chain_nodes left number a (k + 1)) (directory_end number a p))
      (directory_nodes (depth_of Tiff) number b k Tiff p
      ++ chain_after (chain_nodes left number b (k + 1)) (directory_end number b p))
      (linked_told left k p (chain_told left (k + 1))) h

  -- where both agree but for the entry at e, all that is read stays, but with its new value
  pub ordered_told : AllByRecursion (Agree a b) (all_beside number a e)
      → Told (ordered_trace number a) (ordered_trace number b)
  unfolding ordered_trace
  ordered_told h =
      let s = same_of a b 0 8 h.0 in
      let first : number_at number 4 a 4 ≡ number_at number 4 b 4 =
      number_same order 4 a b 4 (part_same a b 0 8 4 4 (omega arith) (omega arith) s) in
      rw (← first) (chain_told 8 0 (number_at number 4 a 4)
      (all_flat (Agree a b) (beside number a e)
      (chain_directories 8 number a (number_at number 4 a 4)) h.1))
