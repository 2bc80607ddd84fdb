-- Where reading looks at no byte as two things, the fields of a name are erased: the edit is not
-- refused as shared.
use Rattle.std.proofs.Common.{◌≡◌, ◌==◌, ℕ, Bool, true, false, if◌then◌else◌, List, [], ◌∷◌, ◌++◌, length, map, Option, None, Result, Ok, Err, refl, sym, ap, subst, ◌∙◌, arith, eq-eqb}
use Rattle.std.specs.Prelude.{◌&&◌, ◌||◌, nat_le}
use Rattle.std.specs.Bool.{beq}
use Rattle.std.specs.Cmp.{booleans_Decides}
use Rattle.std.specs.Cmp.Lexicographic.{pointwise}
use Rattle.std.specs.List.{flat_map, AllByRecursion}
use Rattle.std.proofs.lemmas.Bool.{false≢true, and_parts, or_right}
use Rattle.std.proofs.lemmas.Bool.Decides.{nat_tests}
use Rattle.std.proofs.lemmas.Slice.Eq.{slice_eq-Decides}
use Rattle.exif_base.specs.Bytes.{Reading, number_at}
use Rattle.exif_base.specs.Orders.{number_of}
use Rattle.exif_base.specs.declared.endian.Order.{Order}
use Rattle.exif_table.specs.declared.context.Context.{Context}
use Rattle.exif_table.specs.declared.context.Context.TheVariants.{Tiff, Exif, Gps, Interop}
use Rattle.exif_text.specs.declared.ifd.In.{In}
use Rattle.exif_types.specs.FieldEq.{context_Decides, field_Decides, field_eq, tag_Decides, ifd_Decides}
use Rattle.exif_types.specs.Lookup.{context_eq, is_named, tag_eq}
use Rattle.exif_types.specs.declared.tag.Tag.{Tag}
use Rattle.exif_tiff.specs.declared.fault.Fault.{Fault}
use Rattle.exif_tiff.specs.Apart.{looks_apart}
use Rattle.exif_tiff.specs.Footprint.{Stretch, chain_directories, footprint, looked_at, ordered_footprint}
use Rattle.exif_tiff.specs.Trace.{Found, Located, Met, Node, Opens, Visit, child_of, entry_of, entry_offsets, fields_of, header, located_of, ordered_trace, trace}
use Rattle.exif_tiff.specs.Visits.{AreBytes}
use Rattle.exif_tiff.proofs.Agreement.{Same, number_same, part_same, same_of}
use Rattle.exif_tiff.proofs.ApartLists.{AreApart, EachApart, IsApart}
use Rattle.exif_tiff.proofs.FootprintAnswers.{header_same}
use Rattle.exif_tiff.proofs.Footprints.{all_flat}
use Rattle.exif_tiff.proofs.Visited.{visited}
use Rattle.exif_edit_base.specs.Locations.{located}
use Rattle.exif_edit_base.proofs.LawsLocated.{ordered_fields}
use Rattle.exif_edit_base.specs.Causes.{shared}
use Rattle.exif_edit_base.specs.Patches.{patched}
use Rattle.exif_edit_base.specs.Readings.{Read, reading}
use Rattle.exif_edit.specs.Promises.{named_directories}
use Rattle.exif_edit_base.specs.Rereading.{still_reads, without_entry_offsets}
use Rattle.exif_edit.specs.Removing.{checked_removals, directories_with, field_patches, has_tag, noted, read_without, removals, removals_from}
use Rattle.exif_edit.specs.Setting.{names_offsets}
use Rattle.exif_edit.proofs.RemoveSteps.{field_else, named_from}
use Rattle.exif_edit.proofs.Unshared.{located_in, named_order, read_in, reading_in}
use Rattle.exif_change_laws.specs.FieldsApart.{FieldsAreErasedApart, some_removals}
use Rattle.exif_change_laws.proofs.RemovedBytes.{as_long, changed, made, narrowed, stays}
use Rattle.exif_change_laws.proofs.RemovedDirectories.{lacks_none, lacks_some}
use Rattle.exif_change_laws.proofs.RemovedLists.{all_members, apart_told, each_flat, has, has_first, member_all}
use Rattle.exif_change_laws.proofs.RemovedVisits.{Among, AreDistinct, Comes, Visited, among_has, looked_once, ordered_walks, offsets_in, visited_of, visited_once}
use Rattle.exif_change_laws.proofs.ShrunkNodes.{Fine, Lacks, Shrinks, ordered_shrinks}

-- a tag whose values say no offsets has no child
childless : (c : Context) (n : ℕ) → names_offsets (record { 0 = c; 1 = n }) ≡ false → child_of c n ≡ None
childless Tiff n h = by_tests (n == 0x8769) (n == 0x8825) refl refl
  where
    no_tag : (m : ℕ) → n ≡ m → names_offsets (record { 0 = Tiff; 1 = m }) ≡ true → ⊥
    no_tag m e t =
        false≢true (sym h ∙ (ap (λ x. names_offsets (record { 0 = Tiff; 1 = x })) e ∙ t))

    by_tests : (s t : Bool) → (n == 0x8769) ≡ s → (n == 0x8825) ≡ t
        → ◌≡◌ {A = Option Context} (child_of Tiff n) None
    by_tests true t p q = absurd (no_tag 0x8769 (grind (arith, nat_tests)) refl)
    by_tests false true p q = absurd (no_tag 0x8825 (grind (arith, nat_tests)) refl)
    by_tests false false p q = rw (p, q) refl
childless Exif n h = rw h refl
childless Gps n h = refl
childless Interop n h = refl

-- ---- the directories of a name

module _ (tag : Tag) (k : In) where
  abbrev named_in : List Located → List ℕ
  named_in ls = directories_with tag k (map (λ (l : Located). l.field) ls) (map entry_of ls)

  noted_holds : (P : ℕ → Type 0) (ps : List ℕ) (p : ℕ) → AllByRecursion P ps → P p
      → AllByRecursion P (noted ps p)
  noted_holds P ps p h one = by_test (has ps p)
    where
      behind : (ps : List ℕ) → AllByRecursion P ps → AllByRecursion P (ps ++ p ∷ [])
      behind [] h = (one, tt)
      behind (q ∷ qs) h = (h.0, behind qs h.1)

      by_test : (t : Bool) → AllByRecursion P (if t then ps else ps ++ p ∷ [])
      by_test true = h
      by_test false = behind ps h

  -- what holds of those of all located fields of the name holds of all of them
  named_hold : (P : ℕ → Type 0) (ls : List Located)
      → AllByRecursion (λ (l : Located). is_named tag k l.field ≡ true → P l.directory) ls
      → AllByRecursion P (named_in ls)
  named_hold P [] h = tt
  named_hold P (l ∷ ls) h = by_test (is_named tag k l.field) refl (named_hold P ls h.1)
    where
      by_test : (t : Bool) → is_named tag k l.field ≡ t → AllByRecursion P (named_in ls)
          → AllByRecursion P (if t then noted (named_in ls) l.directory else named_in ls)
      by_test true e r = noted_holds P (named_in ls) l.directory r (h.0 e)
      by_test false e r = r

  noted_has : (ps : List ℕ) (p : ℕ) → has (noted ps p) p ≡ true
  noted_has ps p = by_test (has ps p) refl
    where
      behind : (ps : List ℕ) → has (ps ++ p ∷ []) p ≡ true
      behind [] = has_first p []
      behind (q ∷ qs) = or_right (q == p) (has (qs ++ p ∷ []) p) (behind qs)

      by_test : (t : Bool) → has ps p ≡ t → has (if t then ps else ps ++ p ∷ []) p ≡ true
      by_test true e = e
      by_test false e = behind ps

  noted_keeps : (ps : List ℕ) (p q : ℕ) → has ps q ≡ true → has (noted ps p) q ≡ true
  noted_keeps ps p q h = by_test (has ps p)
    where
      front : (x y : List ℕ) → has x q ≡ true → has (x ++ y) q ≡ true
      front [] y h = absurd (false≢true h)
      front (z ∷ x) y h = by_test (z == q) (front x y) h
        where
          by_test : (t : Bool) → (has x q ≡ true → has (x ++ y) q ≡ true)
              → (t || has x q) ≡ true → (t || has (x ++ y) q) ≡ true
          by_test true r h = refl
          by_test false r h = r h

      by_test : (t : Bool) → has (if t then ps else ps ++ p ∷ []) q ≡ true
      by_test true = h
      by_test false = front ps (p ∷ []) h

  -- each located field of the name has its directory among them
  abbrev IsKnown : List ℕ → Located → Type 0
  IsKnown ps l = is_named tag k l.field ≡ true → has ps l.directory ≡ true

  known_more : (ps qs : List ℕ) → ((q : ℕ) → has ps q ≡ true → has qs q ≡ true) → (ls : List Located)
      → AllByRecursion (IsKnown ps) ls → AllByRecursion (IsKnown qs) ls
  known_more ps qs s [] h = tt
  known_more ps qs s (l ∷ ls) h = (λ e. s l.directory (h.0 e), known_more ps qs s ls h.1)

  all_known : (ls : List Located) → AllByRecursion (IsKnown (named_in ls)) ls
  all_known [] = tt
  all_known (l ∷ ls) = by_test (is_named tag k l.field) refl (all_known ls)
    where
      by_test : (t : Bool) → is_named tag k l.field ≡ t → AllByRecursion (IsKnown (named_in ls)) ls
          → ((t ≡ true → has (if t then noted (named_in ls) l.directory else named_in ls) l.directory
          ≡ true) × AllByRecursion
          (IsKnown (if t then noted (named_in ls) l.directory else named_in ls)) ls)
      by_test true e r = (
        λ s. noted_has (named_in ls) l.directory,
        known_more (named_in ls) (noted (named_in ls) l.directory)
            (λ q. noted_keeps (named_in ls) l.directory q) ls r,
      )
      by_test false e r = (λ s. absurd (false≢true s), r)

-- ---- the nodes

and_itself : (x : Bool) → ((true && x) && true) ≡ x
and_itself true = refl
and_itself false = refl

still_by : (x : Result Read Fault) (found want : Read) → x ≡ Ok found
    → beq found.little want.little ≡ true
    → pointwise field_eq (without_entry_offsets found.fields) (without_entry_offsets want.fields) ≡ true
    → nat_le (length found.faults) (length want.faults) ≡ true
    → (elim x [
      | Ok r ↦ beq r.little want.little
          && (pointwise field_eq (without_entry_offsets r.fields) (without_entry_offsets want.fields)
          && nat_le (length r.faults) (length want.faults))
      | Err fault ↦ false
    ]) ≡ true
still_by x found want e l f g = rw (e, l, f, g) refl

module _ (tag : Tag) (k : In) (order : Order) (a : List ℕ) (head : header a ≡ Ok order)
    (are_bytes : AreBytes a) (alone : looks_apart a ≡ true) (names : names_offsets tag ≡ false) where
  abbrev number : Reading
  number = number_of order

  abbrev nodes : List Node
  nodes = ordered_trace number a

  abbrev ps : List ℕ
  ps = named_in tag k (located_of nodes)

  abbrev ds : List ℕ
  ds = chain_directories 8 number a (number_at number 4 a 4)

  none_below : child_of tag.0 tag.1 ≡ None
  none_below = childless tag.0 tag.1 names

  apart : AllByRecursion (IsApart (record { offset = 0; len = 8 })) (flat_map (looked_at number a) ds)
      × AreApart (flat_map (looked_at number a) ds)
  apart =
      subst (λ (x : Result Order Fault). AreApart (record { offset = 0; len = 8 } ∷ elim x as (λ _. List Stretch) [
        | Ok o ↦ ordered_footprint (number_of o) a
        | Err fault ↦ []
      ])) head (apart_told (footprint a) alone)

  abbrev vs : List Visited
  vs = (ordered_walks number a).visits

  come : AllByRecursion (Comes number a vs) nodes
  come = (ordered_walks number a).come

  visits_are : offsets_in vs ≡ ds
  visits_are = (ordered_walks number a).offsets ∙ visited number a

  once : (t u : Visited) → Among t vs → Among u vs → t.offset ≡ u.offset → t ≡ u
  once t u =
      visited_once vs t u
      (subst (λ xs. AreDistinct xs) (sym visits_are) (looked_once number a ds apart.1))

  is_visited : (t : Visited) → Among t vs → has ds t.offset ≡ true
  is_visited t h = ap (λ xs. has xs t.offset) (sym visits_are) ∙ among_has t vs h

  -- a directory of the name is visited as such, and has an entry of its tag
  pub record IsOfName (p : ℕ) : Type 0 where
    pub visit : Among (record { offset = p; context = tag.0; number = k.0 }) vs
    pub entry : ℕ
    pub there : has (entry_offsets number a p) entry ≡ true
    pub tagged : has_tag number a tag.1 entry ≡ true

  of_name : (l : Located) → Comes number a vs (Found l) → is_named tag k l.field ≡ true
      → IsOfName l.directory
  of_name l h e =
      let s = and_parts (tag_eq l.field.tag tag) (l.field.ifd_num.0 == k.0) e in
      let t = (tag_Decides l.field.tag tag).0 s.0 in
      let i = (ifd_Decides l.field.ifd_num k).0 s.1 in
      let n : number_at number 2 a l.entry ≡ tag.1 = h.2 ∙ ap (λ (x : Tag). x.1) t in
      record {
        visit = subst
            (λ (x : Tag). Among (record { offset = l.directory; context = x.0; number = k.0 }) vs) t
            (subst (λ (x : In). Among
            (record { offset = l.directory; context = l.field.tag.0; number = x.0 }) vs) i h.0);
        entry = l.entry;
        there = h.1;
        tagged = eq-eqb (number_at number 2 a l.entry) tag.1 n;
      }

  of_found : (P : Located → Type 0) → ((l : Located) → Comes number a vs (Found l) → P l)
      → (ns : List Node) → AllByRecursion (Comes number a vs) ns → AllByRecursion P (located_of ns)
  of_found P f [] h = tt
  of_found P f (Opens d ∷ ns) h = of_found P f ns h.1
  of_found P f (Visit ∷ ns) h = of_found P f ns h.1
  of_found P f (Found l ∷ ns) h = (f l h.0, of_found P f ns h.1)
  of_found P f (Met fault ∷ ns) h = of_found P f ns h.1

  all_of_name : AllByRecursion IsOfName ps
  all_of_name =
      named_hold tag k IsOfName (located_of nodes)
      (of_found (λ l. is_named tag k l.field ≡ true → IsOfName l.directory) of_name nodes come)

  mine : (p : ℕ) → has ps p ≡ true → IsOfName p
  mine p h = member_all IsOfName ps p all_of_name h

  known : AllByRecursion (λ q. has ds q ≡ true) ps
  known =
      all_members (λ q. has ds q ≡ true) ps
      (λ q h. is_visited (record { offset = q; context = tag.0; number = k.0 }) (mine q h).visit)

  abbrev b : List ℕ
  b = made order a tag.1 ps

  abbrev long : length a ≡ length b
  long = as_long order a tag.1 ps

  lacks : (p : ℕ) → has ds p ≡ true → Lacks order a b long tag k ps none_below p
  lacks p m = by_test (has ps p) refl
    where
      by_test : (t : Bool) → has ps p ≡ t → Lacks order a b long tag k ps none_below p
      by_test true e =
          let n = mine p e in
          lacks_some order a tag k ps ds none_below are_bytes apart.1 known p m e n.entry n.there n.tagged
      by_test false e = lacks_none order a tag k ps ds none_below are_bytes apart.1 known p m e

  abbrev IsFine : Node → Type 0
  IsFine node = Fine order a b long tag k ps none_below node

  named_so : (l : Located) → Comes number a vs (Found l) → IsKnown tag k ps l
      → is_named tag k l.field ≡ (has ps l.directory && (l.field.tag.1 == tag.1))
  named_so l h known' = by_test (has ps l.directory) refl
    where
      by_name : (t : Bool) → is_named tag k l.field ≡ t → has ps l.directory ≡ false → t ≡ false
      by_name true e out = absurd (false≢true (sym out ∙ known' e))
      by_name false e out = refl

      by_test : (t : Bool) → has ps l.directory ≡ t
          → is_named tag k l.field ≡ (t && (l.field.tag.1 == tag.1))
      by_test true e =
          let v : Visited = record { offset = l.directory; context = tag.0; number = k.0 } in
          let same : visited_of l ≡ v = once (visited_of l) v h.0 (mine l.directory e).visit refl in
          let c : context_eq l.field.tag.0 tag.0 ≡ true =
          (context_Decides l.field.tag.0 tag.0).1 (ap (λ (x : Visited). x.context) same) in
          let i : (l.field.ifd_num.0 == k.0) ≡ true =
          eq-eqb l.field.ifd_num.0 k.0 (ap (λ (x : Visited). x.number) same) in
          rw (c, i) (and_itself (l.field.tag.1 == tag.1))
      by_test false e = by_name (is_named tag k l.field) refl e

  all_fine : (ns : List Node) → AllByRecursion (Comes number a vs) ns
      → AllByRecursion (IsKnown tag k ps) (located_of ns) → AllByRecursion IsFine ns
  all_fine [] h g = tt
  all_fine (Opens d ∷ ns) h g = (
    (
      lacks d.offset (is_visited (record { offset = d.offset; context = d.context; number = h.0.0 }) h.0.1),
      λ e. ap (λ (x : Visited). x.context)
          (once (record { offset = d.offset; context = d.context; number = h.0.0 })
          (record { offset = d.offset; context = tag.0; number = k.0 }) h.0.1 (mine d.offset e).visit refl),
    ),
    all_fine ns h.1 g,
  )
  all_fine (Visit ∷ ns) h g = (tt, all_fine ns h.1 g)
  all_fine (Found l ∷ ns) h g = (named_so l h.0 g.0, all_fine ns h.1 g.1)
  all_fine (Met fault ∷ ns) h g = (tt, all_fine ns h.1 g)

  -- ---- the whole

  head_same : Same a b 0 8
  head_same =
      let start : Stretch = record { offset = 0; len = 8 } in
      let far : EachApart (start ∷ []) (flat_map (changed number a tag.1) ps) =
      each_flat (start ∷ []) (changed number a tag.1) ps
      (all_members (λ q. EachApart (start ∷ []) (changed number a tag.1 q)) ps
      (λ q l. narrowed order a tag.1 ps ds apart.1 known q (start ∷ []) (
        member_all (λ x. AllByRecursion (IsApart start) (looked_at number a x)) ds q
            (all_flat (IsApart start) (looked_at number a) ds apart.0)
            (member_all (λ x. has ds x ≡ true) ps q known l),
        tt,
      ))) in
      same_of a b 0 8 (stays order a tag.1 ps (start ∷ []) far).0

  head_out : header b ≡ Ok order
  head_out = sym (header_same a b long head_same) ∙ head

  shrinks : Shrinks tag k nodes (ordered_trace number b)
  shrinks =
      ordered_shrinks order a b long tag k ps none_below
      (number_same order 4 a b 4 (part_same a b 0 8 4 4 (omega arith) (omega arith) head_same))
      (all_fine nodes come (all_known tag k (located_of nodes)))

  reads : still_reads b (read_without tag k (read_in order a)) ≡ true
  reads =
      let found = read_in order b in
      let want = read_without tag k (read_in order a) in
      let s = shrinks in
      let few = s.1 in
      let l : beq found.little want.little ≡ true =
      (booleans_Decides found.little want.little).1 refl in
      let f : pointwise field_eq (without_entry_offsets found.fields) (without_entry_offsets want.fields) ≡ true =
      (slice_eq-Decides field_Decides (without_entry_offsets found.fields) (without_entry_offsets want.fields)
      (pointwise field_eq (without_entry_offsets found.fields) (without_entry_offsets want.fields)) refl).1 s.0 in
      let g : nat_le (length found.faults) (length want.faults) ≡ true = grind (arith, nat_tests) in
      still_by (reading b) found want (reading_in b order head_out) l f g

  answered : (qs : List ℕ)
      → still_reads (patched (removals order a tag.1 qs) a) (read_without tag k (read_in order a)) ≡ true
      → removals_from tag k (read_in order a) a qs ≡ some_removals order a tag.1 qs
  answered [] h = refl
  answered (q ∷ qs) h =
      ap (λ o. checked_removals (read_without tag k (read_in order a)) a (removals o a tag.1 (q ∷ qs)))
      (named_order order)
      ∙ ap (λ t. if t then Ok (removals order a tag.1 (q ∷ qs)) else Err shared) h

  trace_is : fields_of (trace a) ≡ fields_of nodes
  unfolding trace
  trace_is =
      ap (λ (x : Result Order Fault). fields_of (elim x as (λ _. List Node)
      [ Ok o ↦ ordered_trace (number_of o) a | Err fault ↦ [] ])) head

  offsets_are : directories_with tag k (fields_of nodes) (map entry_of (located a)) ≡ ps
  offsets_are =
      ap (λ fs. directories_with tag k fs (map entry_of (located a))) (sym (ordered_fields number a))
      ∙ ap (λ ls. directories_with tag k (map (λ (l : Located). l.field) (located_of nodes)) (map entry_of ls))
      (located_in a order head)

  -- erasing the fields of a name takes the entries of its tag out of their directories, if any
  pub erased : field_patches a tag k ≡ some_removals order a tag.1 (named_directories a tag k)
  erased =
      field_else a tag k names
      ∙ (named_from a tag k (read_in order a) (reading_in a order head)
      ∙ (ap (removals_from tag k (read_in order a) a) offsets_are
      ∙ (answered ps reads
      ∙ ap (some_removals order a tag.1)
      (sym offsets_are ∙ ap (λ fs. directories_with tag k fs (map entry_of (located a))) (sym trace_is)))))

-- where no byte is looked at as two things, the fields of a name that says no offsets are erased
pub erased_apart : (tag : Tag) (k : In) (bytes : List ℕ) → FieldsAreErasedApart tag k bytes
erased_apart tag k bytes order head are_bytes alone names =
    erased tag k order bytes head are_bytes alone names
