-- Data whose directories of a name lack the entries of its tag, and which are else as they were where
-- reading looks, are read as before but for the fields of the name.
use Rattle.std.proofs.Common.{◌≡◌, ◌≤◌, ◌+◌, ◌==◌, ℕ, zero, suc, Bool, true, false, if◌then◌else◌, List, [], ◌∷◌, ◌++◌, ◌⊎◌, inl, inr, length, Option, Some, None, Result, Ok, Err, refl, sym, ap, ◌∙◌, arith}
use Rattle.std.specs.Prelude.{◌&&◌, not}
use Rattle.std.specs.List.{flat_map, filter, AllByRecursion}
use Rattle.std.proofs.lemmas.Bool.{false≢true, and_parts}
use Rattle.std.proofs.lemmas.Bool.Decides.{nat_tests}
use Rattle.std.proofs.lemmas.List.{length-append, map-append}
use Rattle.std.proofs.lemmas.List.Elements.{filter-append}
use Rattle.exif_base.specs.Bytes.{Reading, number_at, spaced}
use Rattle.exif_base.specs.Orders.{number_of}
use Rattle.exif_base.specs.declared.endian.Order.{Order}
use Rattle.exif_types.specs.Lookup.{is_named}
use Rattle.exif_types.specs.Numbers.{number_in}
use Rattle.exif_types.specs.declared.field.Field.{Field}
use Rattle.exif_text.specs.declared.ifd.In.{In}
use Rattle.exif_types.specs.declared.tag.Tag.{Tag}
use Rattle.exif_types.specs.declared.value.Value.{Value}
use Rattle.exif_table.specs.declared.context.Context.{Context}
use Rattle.exif_table.specs.declared.context.Context.TheVariants.{Tiff}
use Rattle.exif_tiff.specs.declared.fault.Fault.{Fault}
use Rattle.exif_tiff.specs.declared.fault.Fault.TheVariants.{TooManyDirectories, UnexpectedNext}
use Rattle.exif_tiff.specs.Footprint.{Agree, value_stretch}
use Rattle.exif_tiff.specs.Trace.{Node, Opens, Visit, Found, Met, Directory, field_of, chain_after, chain_nodes, child_end, child_of, depth_of, directory_end, directory_nodes, entry_nodes, entry_offsets, entry_value, fields_of, faults_of, ordered_trace, pointer_nodes, tagged_nodes, valued_nodes}
use Rattle.exif_tiff.proofs.Members.{all_left, all_right}
use Rattle.exif_tiff.proofs.ReportBound.{faults-append, fields-append}
use Rattle.exif_edit_base.specs.Rereading.{field_at_entry, value_at_entry, without_entry_offsets}
use Rattle.exif_edit.specs.Removing.{has_tag, without_named}
use Rattle.exif_change_laws.proofs.RemovedLists.{has}
use Rattle.exif_change_laws.proofs.ShrunkValues.{AreTold, IsMoved, number_in_told, number_moved, value_moved}

-- ---- nodes that lack the fields of a name

-- the new nodes have the fields of the old ones but those of the name, wherever entries are, and no
-- more faults
abbrev pub Shrinks : Tag → In → List Node → List Node → Type 0
Shrinks tag k ns ms =
    (without_entry_offsets (fields_of ms) ≡ without_entry_offsets (without_named tag k (fields_of ns)))
    × (length (faults_of ms) ≤ length (faults_of ns))

joined : (tag : Tag) (k : In) (ns os ms ps : List Node) → Shrinks tag k ns ms → Shrinks tag k os ps
    → Shrinks tag k (ns ++ os) (ms ++ ps)
joined tag k ns os ms ps h l =
    let f = h.0 in
    let g = l.0 in
    let few = h.1 in
    let more = l.1 in
    let a = length-append (faults_of ms) (faults_of ps) in
    let b = length-append (faults_of ns) (faults_of os) in
    let kept = filter-append (λ (x : Field). not (is_named tag k x)) (fields_of ns) (fields_of os) in
    let left = map-append (field_at_entry 0) (fields_of ms) (fields_of ps) in
    let right = map-append (field_at_entry 0) (without_named tag k (fields_of ns)) (without_named tag k (fields_of os)) in (
      rw (fields-append ms ps, fields-append ns os, kept, left, right, f, g) refl,
      rw (faults-append ms ps, faults-append ns os) (omega (arith, a, b)),
    )

fault_shrinks : (tag : Tag) (k : In) (t : Bool) (fault : Fault)
    → Shrinks tag k (if t then [] else Met fault ∷ []) (if t then [] else Met fault ∷ [])
fault_shrinks tag k true fault = (refl, omega arith)
fault_shrinks tag k false fault = (refl, omega arith)

end_shrinks : (tag : Tag) (k : In) (x : Result ℕ Fault) → Shrinks tag k (child_end x) (child_end x)
end_shrinks tag k (Err fault) = (refl, omega arith)
end_shrinks tag k (Ok next) = fault_shrinks tag k (next == 0) UnexpectedNext

-- how a directory ends: as before, or without its fault
abbrev pub EndsBetter : Result ℕ Fault → Result ℕ Fault → Type 0
EndsBetter x y = (x ≡ y) ⊎ ((fault : Fault) × (x ≡ Err fault) × (y ≡ Ok 0))

child_shrinks : (tag : Tag) (k : In) (x y : Result ℕ Fault) → EndsBetter x y
    → Shrinks tag k (child_end x) (child_end y)
child_shrinks tag k x y (inl e) = rw e (end_shrinks tag k y)
child_shrinks tag k x y (inr e) = rw (e.1, e.2) (refl, omega arith)

module _ (order : Order) (a b : List ℕ) (as_long : length a ≡ length b) (tag : Tag) (k : In)
    (ps : List ℕ) (childless : child_of tag.0 tag.1 ≡ None) where
  abbrev number : Reading
  number = number_of order

  -- whether the entry at e of the directory at p is taken out
  abbrev pub taken : ℕ → ℕ → Bool
  taken p e = has ps p && has_tag number a tag.1 e

  -- the entries that are left
  abbrev pub left : ℕ → List ℕ
  left p = filter (λ e. not (taken p e)) (entry_offsets number a p)

  abbrev ValueAlike : ℕ → Type 0
  ValueAlike e = AllByRecursion (Agree a b) (value_stretch number a e)

  -- entries are one behind the other from q on, with their values where they were
  abbrev pub Follow : List ℕ → ℕ → Type 0
  Follow [] q = Unit {0}
  Follow (e ∷ es) q = (IsMoved a b e q × ValueAlike e) × Follow es (q + 12)

  -- a directory lacks these entries
  pub record Lacks (p : ℕ) : Type 0 where
    pub offsets : entry_offsets number b p ≡ spaced (p + 2) 12 (length (left p))
    pub entries : Follow (left p) (p + 2)
    pub end : EndsBetter (directory_end number a p) (directory_end number b p)

  -- what is required of old nodes: directories lack what is taken out, that is the fields of the name
  abbrev pub Fine : Node → Type 0
  Fine (Opens d) = Lacks d.offset × (has ps d.offset ≡ true → d.context ≡ tag.0)
  Fine Visit = Unit {0}
  Fine (Found l) = is_named tag k l.field ≡ (has ps l.directory && (l.field.tag.1 == tag.1))
  Fine (Met fault) = Unit {0}

  -- ---- one entry

  module _ (f g : Directory)
      (step : (d : Context) (q : ℕ) → AllByRecursion Fine (f d q) → Shrinks tag k (f d q) (g d q))
      (ends : (d : Context) (q : ℕ) → AllByRecursion Fine (f d q)
      → EndsBetter (directory_end number a q) (directory_end number b q)) where
    pointer_shrinks : (d : Context) (o : Option ℕ) → AllByRecursion Fine (pointer_nodes f number a d o)
        → Shrinks tag k (pointer_nodes f number a d o) (pointer_nodes g number b d o)
    pointer_shrinks d None h = (refl, omega arith)
    pointer_shrinks d (Some q) h =
        let here = all_left Fine (f d q) (child_end (directory_end number a q)) h in
        joined tag k (f d q) (child_end (directory_end number a q)) (g d q)
        (child_end (directory_end number b q)) (step d q here)
        (child_shrinks tag k (directory_end number a q) (directory_end number b q) (ends d q here))

    -- a field that stays
    field_stays : (c : Context) (j n : ℕ) (v w : Value) → value_at_entry 0 v ≡ value_at_entry 0 w → (t : Bool)
        → t ≡ false
        → without_entry_offsets (field_of c j n w ∷ [])
        ≡ without_entry_offsets (if not t then field_of c j n v ∷ [] else [])
    field_stays c j n v w s true e = absurd (false≢true (sym e))
    field_stays c j n v w s false e = ap (λ x. field_of c j n x ∷ []) (sym s)

    tagged_shrinks : (c : Context) (j p n e q : ℕ) (v w : Value) (o : Option Context)
        → value_at_entry 0 v ≡ value_at_entry 0 w → (has ps p && (n == tag.1)) ≡ false
        → AllByRecursion Fine (tagged_nodes f number a c j p n e v o)
        → Shrinks tag k (tagged_nodes f number a c j p n e v o) (tagged_nodes g number b c j p n q w o)
    tagged_shrinks c j p n e q v w None s stays h =
        (field_stays c j n v w s (is_named tag k (field_of c j n v)) (h.0 ∙ stays), omega arith)
    tagged_shrinks c j p n e q v w (Some d) s stays h =
        let same = number_in_told v w s in
        rw (← same) (pointer_shrinks d (number_in v 0) h)

    valued_shrinks : (c : Context) (j p n e q : ℕ) (x y : Option Value) → AreTold x y
        → (has ps p && (n == tag.1)) ≡ false
        → AllByRecursion Fine (valued_nodes f number a c j p n e x)
        → Shrinks tag k (valued_nodes f number a c j p n e x) (valued_nodes g number b c j p n q y)
    valued_shrinks c j p n e q (Some v) (Some w) s stays h =
        tagged_shrinks c j p n e q v w (child_of c n) s stays h
    valued_shrinks c j p n e q (Some v) None s stays h = absurd s
    valued_shrinks c j p n e q None (Some w) s stays h = absurd s
    valued_shrinks c j p n e q None None s stays h = (refl, omega arith)

    entry_left : (c : Context) (j p e q : ℕ) → taken p e ≡ false → IsMoved a b e q → ValueAlike e
        → AllByRecursion Fine (entry_nodes f number a c j p e)
        → Shrinks tag k (entry_nodes f number a c j p e) (entry_nodes g number b c j p q)
    entry_left c j p e q stays m v h =
        let x : e + 0 ≡ e = omega arith in
        let y : q + 0 ≡ q = omega arith in
        let tags : number_at number 2 a e ≡ number_at number 2 b q =
        rw (x, y) at (number_moved order 2 a b e q 0 (omega arith) m) in
        rw (← tags)
        (valued_shrinks c j p (number_at number 2 a e) e q (entry_value number a e)
        (entry_value number b q) (value_moved order a b e q as_long m v) stays h.1)

    -- a field that is taken out
    field_goes : (f : Field) (t : Bool) → t ≡ true → [] ≡ without_entry_offsets (if not t then f ∷ [] else [])
    field_goes f true e = refl
    field_goes f false e = absurd (false≢true e)

    taken_tagged : (c : Context) (j p n e : ℕ) (v : Value) (o : Option Context) → o ≡ None
        → (has ps p && (n == tag.1)) ≡ true
        → AllByRecursion Fine (tagged_nodes f number a c j p n e v o)
        → Shrinks tag k (tagged_nodes f number a c j p n e v o) []
    taken_tagged c j p n e v None none goes h =
        (field_goes (field_of c j n v) (is_named tag k (field_of c j n v)) (h.0 ∙ goes), omega arith)
    taken_tagged c j p n e v (Some d) none goes h = absurd (some_none none)
      where
        some_none : ◌≡◌ {A = Option Context} (Some d) None → ⊥
        some_none h = cc

    taken_valued : (c : Context) (j p n e : ℕ) (x : Option Value) → child_of c n ≡ None
        → (has ps p && (n == tag.1)) ≡ true
        → AllByRecursion Fine (valued_nodes f number a c j p n e x)
        → Shrinks tag k (valued_nodes f number a c j p n e x) []
    taken_valued c j p n e None none goes h = (refl, omega arith)
    taken_valued c j p n e (Some v) none goes h =
        taken_tagged c j p n e v (child_of c n) none goes h

    entry_taken : (c : Context) (j p e : ℕ) → (has ps p ≡ true → c ≡ tag.0) → taken p e ≡ true
        → AllByRecursion Fine (entry_nodes f number a c j p e)
        → Shrinks tag k (entry_nodes f number a c j p e) []
    entry_taken c j p e at' goes h =
        let n = number_at number 2 a e in
        let s = and_parts (has ps p) (n == tag.1) goes in
        let mine = at' s.0 in
        let test = s.1 in
        let same : n ≡ tag.1 = grind (arith, nat_tests) in
        let none : child_of c n ≡ None = rw (mine, same) childless in
        taken_valued c j p n e (entry_value number a e) none goes h.1

    -- ---- the entries of a directory

    entries_shrink : (c : Context) (j p : ℕ) → (has ps p ≡ true → c ≡ tag.0) → (es : List ℕ) (q : ℕ)
        → Follow (filter (λ e. not (taken p e)) es) q
        → AllByRecursion Fine (flat_map (entry_nodes f number a c j p) es)
        → Shrinks tag k (flat_map (entry_nodes f number a c j p) es)
        (flat_map (entry_nodes g number b c j p)
        (spaced q 12 (length (filter (λ e. not (taken p e)) es))))
    entries_shrink c j p at' [] q m h = (refl, omega arith)
    entries_shrink c j p at' (e ∷ es) q m h =
        let nodes = entry_nodes f number a c j p in
        by_test (taken p e) refl
        (λ x. entries_shrink c j p at' es q x (all_right Fine (nodes e) (flat_map nodes es) h))
        (λ x. entries_shrink c j p at' es (q + 12) x (all_right Fine (nodes e) (flat_map nodes es) h)) m
      where
        rest : List ℕ
        rest = filter (λ x. not (taken p x)) es

        by_test : (t : Bool) → taken p e ≡ t
            → (Follow rest q → Shrinks tag k (flat_map (entry_nodes f number a c j p) es)
            (flat_map (entry_nodes g number b c j p) (spaced q 12 (length rest))))
            → (Follow rest (q + 12) → Shrinks tag k (flat_map (entry_nodes f number a c j p) es)
            (flat_map (entry_nodes g number b c j p) (spaced (q + 12) 12 (length rest))))
            → Follow (if not t then e ∷ rest else rest) q
            → Shrinks tag k (entry_nodes f number a c j p e ++ flat_map (entry_nodes f number a c j p) es)
            (flat_map (entry_nodes g number b c j p)
            (spaced q 12 (length (if not t then e ∷ rest else rest))))
        by_test true goes r s m =
            joined tag k (entry_nodes f number a c j p e) (flat_map (entry_nodes f number a c j p) es) []
            (flat_map (entry_nodes g number b c j p) (spaced q 12 (length rest)))
            (entry_taken c j p e at' goes
            (all_left Fine (entry_nodes f number a c j p e) (flat_map (entry_nodes f number a c j p) es) h))
            (r m)
        by_test false stays r s m =
            joined tag k (entry_nodes f number a c j p e) (flat_map (entry_nodes f number a c j p) es)
            (entry_nodes g number b c j p q)
            (flat_map (entry_nodes g number b c j p) (spaced (q + 12) 12 (length rest)))
            (entry_left c j p e q stays m.0.0 m.0.1
            (all_left Fine (entry_nodes f number a c j p e) (flat_map (entry_nodes f number a c j p) es) h))
            (s m.1)

  -- ---- directories

  -- a directory is the first that it opens
  first_fine : (depth j : ℕ) (c : Context) (p : ℕ)
      → AllByRecursion Fine (directory_nodes depth number a j c p) → Lacks p
  first_fine zero j c p h = h.0.0
  first_fine (suc depth) j c p h = h.0.0

  directory_shrinks : (depth j : ℕ) (c : Context) (p : ℕ)
      → AllByRecursion Fine (directory_nodes depth number a j c p)
      → Shrinks tag k (directory_nodes depth number a j c p) (directory_nodes depth number b j c p)
  directory_shrinks zero j c p h = (refl, omega arith)
  directory_shrinks (suc depth) j c p h =
      let lacks = h.0.0 in
      let offsets = lacks.offsets in
      rw offsets
      (entries_shrink (directory_nodes depth number a j) (directory_nodes depth number b j)
      (directory_shrinks depth j) (λ d q x. (first_fine depth j d q x).end) c j p h.0.1
      (entry_offsets number a p) (p + 2) lacks.entries h.1)

  -- ---- the chain

  -- nothing is at 0
  none_there : (more j : ℕ) → chain_nodes more number b j 0 ≡ []
  none_there zero j = refl
  none_there (suc more) j = refl

  after_shrinks : (more j : ℕ) (x y : Result ℕ Fault) → EndsBetter x y
      → ((q : ℕ) → AllByRecursion Fine (chain_nodes more number a j q)
      → Shrinks tag k (chain_nodes more number a j q) (chain_nodes more number b j q))
      → AllByRecursion Fine (chain_after (chain_nodes more number a j) x)
      → Shrinks tag k (chain_after (chain_nodes more number a j) x)
      (chain_after (chain_nodes more number b j) y)
  after_shrinks more j x y (inr e) each h =
      let none = none_there more j in rw (e.1, e.2, none) (refl, omega arith)
  after_shrinks more j x y (inl e) each h = rw (← e) (same x h)
    where
      same : (x : Result ℕ Fault) → AllByRecursion Fine (chain_after (chain_nodes more number a j) x)
          → Shrinks tag k (chain_after (chain_nodes more number a j) x)
          (chain_after (chain_nodes more number b j) x)
      same (Err fault) h = (refl, omega arith)
      same (Ok next) h = each next h

  linked_shrinks : (more j p : ℕ)
      → ((q : ℕ) → AllByRecursion Fine (chain_nodes more number a (j + 1) q)
      → Shrinks tag k (chain_nodes more number a (j + 1) q) (chain_nodes more number b (j + 1) q))
      → AllByRecursion Fine (directory_nodes (depth_of Tiff) number a j Tiff p
      ++ chain_after (chain_nodes more number a (j + 1)) (directory_end number a p))
      → Shrinks tag k (directory_nodes (depth_of Tiff) number a j Tiff p
      ++ chain_after (chain_nodes more number a (j + 1)) (directory_end number a p))
      (directory_nodes (depth_of Tiff) number b j Tiff p
      ++ chain_after (chain_nodes more number b (j + 1)) (directory_end number b p))
  linked_shrinks more j p rest h =
      let here = all_left Fine (directory_nodes (depth_of Tiff) number a j Tiff p)
      (chain_after (chain_nodes more number a (j + 1)) (directory_end number a p)) h in
      let behind = all_right Fine (directory_nodes (depth_of Tiff) number a j Tiff p)
      (chain_after (chain_nodes more number a (j + 1)) (directory_end number a p)) h in
      joined tag k (directory_nodes (depth_of Tiff) number a j Tiff p)
      (chain_after (chain_nodes more number a (j + 1)) (directory_end number a p))
      (directory_nodes (depth_of Tiff) number b j Tiff p)
      (chain_after (chain_nodes more number b (j + 1)) (directory_end number b p))
      (directory_shrinks (depth_of Tiff) j Tiff p here)
      (after_shrinks more (j + 1) (directory_end number a p) (directory_end number b p)
      (first_fine (depth_of Tiff) j Tiff p here).end rest behind)

  either_shrinks : (t : Bool) (ns ms : List Node)
      → (AllByRecursion Fine ns → Shrinks tag k ns ms)
      → AllByRecursion Fine (elim t as (λ _. List Node) [ true ↦ [] | false ↦ ns ])
      → Shrinks tag k (elim t as (λ _. List Node) [ true ↦ [] | false ↦ ns ])
      (elim t as (λ _. List Node) [ true ↦ [] | false ↦ ms ])
  either_shrinks true ns ms each h = (refl, omega arith)
  either_shrinks false ns ms each h = each h

  chain_shrinks : (more j p : ℕ) → AllByRecursion Fine (chain_nodes more number a j p)
      → Shrinks tag k (chain_nodes more number a j p) (chain_nodes more number b j p)
  chain_shrinks zero j p h = fault_shrinks tag k (p == 0) TooManyDirectories
  chain_shrinks (suc more) j p h =
      either_shrinks (p == 0)
      (directory_nodes (depth_of Tiff) number a j Tiff p
      ++ chain_after (chain_nodes more number a (j + 1)) (directory_end number a p))
      (directory_nodes (depth_of Tiff) number b j Tiff p
      ++ chain_after (chain_nodes more number b (j + 1)) (directory_end number b p))
      (linked_shrinks more j p (chain_shrinks more (j + 1))) h

  -- with the same first offset and fine old nodes, only the name's fields go, and no faults come
  pub ordered_shrinks : number_at number 4 a 4 ≡ number_at number 4 b 4
      → AllByRecursion Fine (ordered_trace number a)
      → Shrinks tag k (ordered_trace number a) (ordered_trace number b)
  unfolding ordered_trace
  ordered_shrinks first h = rw (← first) (chain_shrinks 8 0 (number_at number 4 a 4) h)
