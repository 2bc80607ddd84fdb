-- Reading looks at no byte of an image as two things.
use Rattle.std.proofs.Common.{◌≡◌, ℕ, zero, suc, ◌+◌, ◌*◌, ◌<◌, ◌≤◌, ◌^◌, inl, inr, List, [], ◌∷◌, ◌++◌, length, refl, sym, ap, subst, ◌∙◌, arith, Bool, true, false, map, Option, Some, None, Ok, Err}
use Rattle.std.specs.Prelude.{if◌then◌else◌, ◌==◌}
use Rattle.std.proofs.lemmas.Bool.{ne_eqb}
use Rattle.std.proofs.lemmas.List.{append-nil}
use Rattle.std.proofs.lemmas.Grind.{flat_map-append}
use Rattle.std.specs.List.{AllByRecursion, flat_map}
use Rattle.exif_base.specs.declared.endian.Order.{Order}
use Rattle.exif_base.specs.Bytes.{Reading, spaced}
use Rattle.exif_base.specs.Orders.{number_of}
use Rattle.exif_table.specs.declared.context.Context.{Context}
use Rattle.exif_table.specs.declared.context.Context.TheVariants.{Tiff, Exif, Gps, Interop}
use Rattle.exif_tiff.specs.Apart.{are_apart, looks_apart}
use Rattle.exif_tiff.specs.Footprint.{Below, Stretch, chain_directories, directories, entry_directories, following, footprint, looked_at, ordered_footprint, value_stretch}
use Rattle.exif_tiff.specs.Trace.{child_of, directory_end, entry_offsets, whole_entries}
use Rattle.exif_tiff.proofs.ApartLists.{AreApart, IsApart, all_weaker, apart_append, apart_computes, each_apart}
use Rattle.exif_tiff.proofs.Members.{all_append, all_left, all_right}
use Rattle.exif_layout.specs.Groups.{Group}
use Rattle.exif_layout.specs.declared.block_kind.BlockKind.TheVariants.{Strips, Tiles, Jpeg}
use Rattle.exif_layout.specs.Image.{draft_parts, image, parts_from}
use Rattle.exif_layout.specs.Layout.{Stands}
use Rattle.exif_layout.specs.Offsets.{after_values, directory_len, directory_offset, draft_end, even, next_offset, strips_offset, tiff_offset, values_offset, tiles_offset, jpeg_offset}
use Rattle.exif_layout.specs.Ranged.{AreRanged, HavePlainTexts}
use Rattle.exif_layout.specs.Refused.{write_fault}
use Rattle.exif_layout.specs.Slots.{Content, Draft, Known, LengthsOf, OffsetOf, OffsetsOf, Slot, draft_of}
use Rattle.exif_layout.proofs.Images.Families.{draft_stands, each_read, values_fit}
use Rattle.exif_layout.proofs.Images.Fitting.{slots_fit}
use Rattle.exif_layout.proofs.Images.Looked.{below_content, entries_look, value_stretches}
use Rattle.exif_layout.proofs.Images.Once.{Differ, NamesOnce, child_named, names_once}
use Rattle.exif_layout.proofs.Images.Offsets.{length-written}
use Rattle.exif_layout.proofs.Images.ReadBack.{draft_end_le, image_header, image_first, next_low}
use Rattle.exif_layout.proofs.Images.Regions.{ExifBelow, GpsBelow, In, InteropBelow, IsChild, Lies, Of, below_apart, children_apart, directory_to, in_front, in_lies, in_own, in_parent, values_apart, values_lie, values_to}
use Rattle.exif_layout.proofs.Images.Whole.{length-image, not_refused, parts_stand}
use Rattle.exif_layout.proofs.Images.Words.{AllStand, ContentFits, DraftStands, IsAccepted, SlotFits}
use Rattle.exif_layout.proofs.Images.Room.{blocks_low}

-- a directory that a pointer of another one names is below it
pub child_is : (parent child : Context) (tag : ℕ) → child_of parent tag ≡ Some child → IsChild parent child
child_is Tiff child tag h = go (tag == 0x8769) (tag == 0x8825) h
  where
    go : (a b : Bool) → (if a then Some Exif else (if b then Some Gps else None)) ≡ Some child → IsChild Tiff child
    go true b h = let same : Exif ≡ child = cc in subst (IsChild Tiff) same ExifBelow
    go false true h = let same : Gps ≡ child = cc in subst (IsChild Tiff) same GpsBelow
    go false false h = cc
child_is Exif child tag h = go (tag == 0xa005) h
  where
    go : (a : Bool) → (if a then Some Interop else None) ≡ Some child → IsChild Exif child
    go true h = let same : Interop ≡ child = cc in subst (IsChild Exif) same InteropBelow
    go false h = cc
child_is Gps child tag h = cc
child_is Interop child tag h = cc

directory_is : (slots : List Slot) → 0 < length slots → directory_len slots ≡ 2 + 12 * length slots + 4
directory_is [] some = absurd (omega arith)
directory_is (slot ∷ slots) some = omega arith

-- ---- what is looked at of a draft

module _ (order : Order) (bytes : List ℕ) (small : length bytes < 256 ^ 4) (draft : Draft) (start next : ℕ) (low : next < 256 ^ 4)
    (stands : DraftStands order bytes draft start next)
    (few : (context : Context) → length (draft.slots context) ≤ 65535)
    (fit : (context : Context) → AllByRecursion (SlotFits draft context) (draft.slots context))
    (once : (context : Context) → NamesOnce (draft.slots context)) where
  -- where the directory of a context is in the draft
  abbrev pub offset : Context → ℕ
  offset = directory_offset draft start

  -- the offsets of a directory and of those below it, as reading finds them down to a depth
  abbrev pub below : ℕ → Below
  below depth = directories depth (number_of order) bytes

  -- what is looked at of some directories
  abbrev pub looked : List ℕ → List Stretch
  looked ps = flat_map (looked_at (number_of order) bytes) ps

  -- what is looked at of the children of entries
  abbrev pub children : ℕ → List Slot → List Stretch
  children depth slots = looked (flat_map (λ (slot : Slot). below_content (below depth) offset slot.content) slots)

  -- stretches that are apart from each other, all in a directory, its values or what is below it
  pub record Good (c : Context) (ts : List Stretch) : Type 0 where
    pub apart : AreApart ts
    pub inside : AllByRecursion (In draft start c) ts

  -- ---- one directory with its values

  -- the stretches of one directory: itself, and its values that are outside of entries
  abbrev pub own : (c : Context) → List Stretch
  own c = record { offset = offset c; len = directory_len (draft.slots c) } ∷ value_stretches (values_offset draft start c) (draft.slots c)

  own_apart : (c : Context) → AreApart (own c)
  unfolding directory_to
  own_apart c =
      let front = in_front draft start c in
      let from : ℕ = values_offset draft start c in
      let to : ℕ = after_values from (draft.slots c) in (
        all_weaker (Lies from to) (IsApart (record { offset = offset c; len = directory_len (draft.slots c) })) (λ s l. inl (omega (arith, l.0, front)))
            (value_stretches from (draft.slots c)) (values_lie from (draft.slots c)),
        values_apart from (draft.slots c),
      )

  own_of : (c : Context) → AllByRecursion (Of draft start c) (own c)
  unfolding Of directory_to values_to
  own_of c =
      let from : ℕ = values_offset draft start c in
      let to : ℕ = after_values from (draft.slots c) in (
        inl (omega arith, omega arith),
        all_weaker (Lies from to) (Of draft start c) (λ s l. inr l) (value_stretches from (draft.slots c)) (values_lie from (draft.slots c)),
      )

  -- what reading finds of a directory
  pub record Found (depth : ℕ) (c : Context) : Type 0 where
    pub here : looked_at (number_of order) bytes (offset c) ≡ own c
    pub under : looked (flat_map (entry_directories (below depth) (number_of order) bytes c) (entry_offsets (number_of order) bytes (offset c)))
        ≡ children depth (draft.slots c)

  found : (depth : ℕ) (c : Context) → 0 < length (draft.slots c) → Found depth c
  found depth c some =
      let slots : List Slot = draft.slots c in
      let read = each_read order bytes small draft start next low stands few fit c some in
      let looks = entries_look order bytes small draft start (below depth) c (offset c + 2) (values_offset draft start c) slots (fit c)
      (values_fit order bytes small draft start next low stands few fit c slots (fit c)) read.texts (stands.values c) in
      let count : whole_entries (number_of order) bytes (offset c) ≡ length slots =
      read.count ∙ length-written draft start (offset c + 2) (values_offset draft start c) slots in
      let long : 2 + 12 * whole_entries (number_of order) bytes (offset c) + 4 ≡ directory_len slots =
      ap (λ n. 2 + 12 * n + 4) count ∙ sym (directory_is slots some) in
      let values : flat_map (value_stretch (number_of order) bytes) (entry_offsets (number_of order) bytes (offset c)) ≡ value_stretches (values_offset draft start c) slots =
      ap (λ n. flat_map (value_stretch (number_of order) bytes) (spaced (offset c + 2) 12 n)) count ∙ looks.stretches in
      record {
        here = λ i. record { offset = offset c; len = long i } ∷ values i;
        under = ap looked (ap (λ n. flat_map (entry_directories (below depth) (number_of order) bytes c) (spaced (offset c + 2) 12 n)) count ∙ looks.children);
      }

  -- ---- its children

  -- a stretch of a child that passes
  pub record From (P : Context → Type 0) (t : Stretch) : Type 0 where
    pub child : Context
    pub passes : P child
    pub within : In draft start child t

  children_more : (depth : ℕ) (slot : Slot) (slots : List Slot)
      → children depth (slot ∷ slots) ≡ looked (below_content (below depth) offset slot.content) ++ children depth slots
  children_more depth slot slots =
      flat_map-append (looked_at (number_of order) bytes) (below_content (below depth) offset slot.content)
      (flat_map (λ (slot : Slot). below_content (below depth) offset slot.content) slots)

  -- what an entry names passes
  abbrev pub Names : (Context → Type 0) → Content → Type 0
  Names P content = (child : Context) → child_named content ≡ Some child → P child

  content_from : (depth : ℕ) (P : Context → Type 0) → ((child : Context) → P child → Good child (looked (below depth child (offset child))))
      → (content : Content) → Names P content → AllByRecursion (From P) (looked (below_content (below depth) offset content))
  content_from depth P good (Known value) names = tt
  content_from depth P good (OffsetsOf kind lengths) names = tt
  content_from depth P good (LengthsOf kind lengths) names = tt
  content_from depth P good (OffsetOf child) names =
      let passes = names child refl in
      all_weaker (In draft start child) (From P) (λ t h. record { child = child; passes = passes; within = h }) _ (good child passes).inside

  children_from : (depth : ℕ) (P : Context → Type 0) → ((child : Context) → P child → Good child (looked (below depth child (offset child))))
      → (slots : List Slot) → AllByRecursion (λ (s : Slot). Names P s.content) slots → AllByRecursion (From P) (children depth slots)
  children_from depth P good [] names = tt
  children_from depth P good (slot ∷ slots) names =
      subst (AllByRecursion (From P)) (sym (children_more depth slot slots))
      (all_append (From P) (looked (below_content (below depth) offset slot.content)) (children depth slots)
      (content_from depth P good slot.content names.0) (children_from depth P good slots names.1))

  -- the child of a context, which has entries
  abbrev pub Child : Context → Context → Type 0
  Child c child = IsChild c child × (0 < length (draft.slots child))

  some_same : (a b : Context) → ◌≡◌ {A = Option Context} (Some a) (Some b) → a ≡ b
  some_same a b h = cc

  none_some : (a : Context) → ◌≡◌ {A = Option Context} None (Some a) → ⊥
  none_some a h = cc

  fit_names : (c : Context) (tag : ℕ) (content : Content) → ContentFits draft c tag content → Names (Child c) content
  fit_names c tag (Known value) h child is = absurd (none_some child is)
  fit_names c tag (OffsetsOf kind lengths) h child is = absurd (none_some child is)
  fit_names c tag (LengthsOf kind lengths) h child is = absurd (none_some child is)
  fit_names c tag (OffsetOf named) h child is = subst (Child c) (some_same named child is) (child_is c named tag h.0, h.1)

  all_name : (c : Context) (slots : List Slot) → AllByRecursion (SlotFits draft c) slots → AllByRecursion (λ (s : Slot). Names (Child c) s.content) slots
  all_name c [] h = tt
  all_name c (slot ∷ slots) h = (fit_names c slot.tag slot.content h.0.content, all_name c slots h.1)

  -- a child that is another one
  abbrev pub Other : Context → Context → Context → Type 0
  Other c named child = Child c child × (named ≡ child → ⊥)

  others : (c named : Context) (slot : Slot) (slots : List Slot) → child_named slot.content ≡ Some named → AllByRecursion (Differ slot) slots
      → AllByRecursion (SlotFits draft c) slots → AllByRecursion (λ (s : Slot). Names (Other c named) s.content) slots
  others c named slot [] is h f = tt
  others c named slot (next ∷ slots) is h f = (
    λ child there. (fit_names c next.tag next.content f.0.content child there, λ same. h.0 child (subst (λ x. child_named slot.content ≡ Some x) same is) there),
    others c named slot slots is h.1 f.1,
  )

  module _ (depth : ℕ) (good : (child : Context) → 0 < length (draft.slots child) → Good child (looked (below depth child (offset child)))) where
    content_apart : (c : Context) (tag : ℕ) (content : Content) (slots : List Slot) → ContentFits draft c tag content
        → ((named : Context) → child_named content ≡ Some named → AllByRecursion (λ (s : Slot). Names (Other c named) s.content) slots)
        → AreApart (children depth slots) → AreApart (looked (below_content (below depth) offset content) ++ children depth slots)
    content_apart c tag (Known value) slots f o h = h
    content_apart c tag (OffsetsOf kind lengths) slots f o h = h
    content_apart c tag (LengthsOf kind lengths) slots f o h = h
    content_apart c tag (OffsetOf child) slots f o h =
        let is = child_is c child tag f.0 in
        let first = good child f.1 in
        apart_append (looked (below depth child (offset child))) (children depth slots) first.apart h
        (each_apart (In draft start child) (From (Other c child))
        (λ s t a b. children_apart draft start is b.passes.0.0 b.passes.1 s t a b.within)
        (looked (below depth child (offset child))) (children depth slots) first.inside
        (children_from depth (Other c child) (λ x p. good x p.0.1) slots (o child refl)))

    apart_children : (c : Context) (slots : List Slot) → AllByRecursion (SlotFits draft c) slots → NamesOnce slots → AreApart (children depth slots)
    apart_children c [] f o = tt
    apart_children c (slot ∷ slots) f o =
        subst AreApart (sym (children_more depth slot slots))
        (content_apart c slot.tag slot.content slots f.0.content (λ named is. others c named slot slots is o.0 f.1) (apart_children c slots f.1 o.1))

    good_over : (c : Context) → 0 < length (draft.slots c) → Good c (own c ++ children depth (draft.slots c))
    good_over c some =
        let from = children_from depth (Child c) (λ x p. good x p.1) (draft.slots c) (all_name c (draft.slots c) (fit c)) in
        record {
          apart = apart_append (own c) (children depth (draft.slots c)) (own_apart c) (apart_children c (draft.slots c) (fit c) (once c))
              (each_apart (Of draft start c) (From (Child c)) (λ s t a b. below_apart draft start b.passes.0 s t a b.within)
              (own c) (children depth (draft.slots c)) (own_of c) from);
          inside = all_append (In draft start c) (own c) (children depth (draft.slots c))
              (all_weaker (Of draft start c) (In draft start c) (in_own draft start c) (own c) (own_of c))
              (all_weaker (From (Child c)) (In draft start c) (λ t b. in_parent draft start b.passes.0 t b.within) (children depth (draft.slots c)) from);
        }

  -- what is looked at of a directory with entries, and below it, is apart and lies in its regions
  pub tree : (depth : ℕ) (c : Context) → 0 < length (draft.slots c) → Good c (looked (below depth c (offset c)))
  tree zero c some =
      let is = found zero c some in
      let alone : looked (below zero c (offset c)) ≡ own c = append-nil (looked_at (number_of order) bytes (offset c)) ∙ is.here in
      subst (Good c) (sym alone)
      (record { apart = own_apart c; inside = all_weaker (Of draft start c) (In draft start c) (in_own draft start c) (own c) (own_of c) })
  tree (suc depth) c some =
      let is = found depth c some in
      let whole : looked (below (suc depth) c (offset c)) ≡ own c ++ children depth (draft.slots c) = λ i. is.here i ++ is.under i in
      subst (Good c) (sym whole) (good_over depth (tree depth) c some)

-- ---- the chain

-- what is looked at of a draft is between where it starts and where it ends
in_draft : (draft : Draft) (start : ℕ) (t : Stretch) → In draft start Tiff t → Lies start (draft_end draft start) t
unfolding tiff_offset tiles_offset jpeg_offset draft_end
in_draft draft start t h =
    let lies = in_lies draft start t h in
    let strips = blocks_low (strips_offset draft start) (draft.blocks Strips) in
    let tiles = blocks_low (tiles_offset draft start) (draft.blocks Tiles) in
    let jpeg = blocks_low (jpeg_offset draft start) (draft.blocks Jpeg) in
    (omega (arith, lies.0), omega (arith, lies.1, strips, tiles, jpeg))

-- stretches that are apart, none of which is in front of an offset
record Behind (start : ℕ) (ts : List Stretch) : Type 0 where
  apart : AreApart ts
  behind : AllByRecursion (λ (t : Stretch). start ≤ t.offset) ts

-- one more directory of a chain
chain_step : (number : Reading) (bytes : List ℕ) (count p next : ℕ) → 0 < p → directory_end number bytes p ≡ Ok next
    → flat_map (looked_at number bytes) (chain_directories (suc count) number bytes p)
    ≡ flat_map (looked_at number bytes) (directories 3 number bytes Tiff p) ++ flat_map (looked_at number bytes) (chain_directories count number bytes next)
chain_step number bytes count p next some end =
    let there : (p == 0) ≡ false = ne_eqb p 0 (λ k. omega arith) in
    let rest : List ℕ = chain_directories count number bytes next in
    let step : chain_directories (suc count) number bytes p ≡ directories 3 number bytes Tiff p ++ rest =
    rw there (λ i. directories 3 number bytes Tiff p ++ following (chain_directories count number bytes) (end i)) in
    ap (flat_map (looked_at number bytes)) step ∙ flat_map-append (looked_at number bytes) (directories 3 number bytes Tiff p) rest

none_behind : (number : Reading) (bytes : List ℕ) (count start : ℕ) → Behind start (flat_map (looked_at number bytes) (chain_directories count number bytes 0))
none_behind number bytes zero start = record { apart = tt; behind = tt }
none_behind number bytes (suc count) start = record { apart = tt; behind = tt }

module _ (order : Order) (bytes : List ℕ) (small : length bytes < 256 ^ 4) where
  chain_behind : (groups : List Group) (count start : ℕ) → 0 < start → AllByRecursion IsAccepted groups → AreRanged groups → HavePlainTexts groups
      → AllStand bytes (parts_from order start (map draft_of groups))
      → Behind start (flat_map (looked_at (number_of order) bytes) (chain_directories count (number_of order) bytes (next_offset start (map draft_of groups))))
  unfolding tiff_offset
  chain_behind [] count start some h ranged clean stands = none_behind (number_of order) bytes count start
  chain_behind (group ∷ groups) zero start some h ranged clean stands = record { apart = tt; behind = tt }
  chain_behind (group ∷ groups) (suc count) start some h ranged clean stands =
      let draft : Draft = draft_of group in
      let end : ℕ = draft_end draft start in
      let next : ℕ = next_offset end (map draft_of groups) in
      let here = all_left (λ part. Stands bytes part.offset part.text) (draft_parts order draft start next) (parts_from order end (map draft_of groups)) stands in
      let there = all_right (λ part. Stands bytes part.offset part.text) (draft_parts order draft start next) (parts_from order end (map draft_of groups)) stands in
      let group_stand : DraftStands order bytes draft start next = draft_stands order bytes draft start next here in
      let fit = slots_fit group ranged.0 clean.0 h.0 in
      let low : next < 256 ^ 4 = next_low order bytes small end groups h.1 there in
      let read = each_read order bytes small draft start next low group_stand h.0.few fit Tiff h.0.some in
      let one = tree order bytes small draft start next low group_stand h.0.few fit (names_once group) 3 Tiff h.0.some in
      let on = draft_end_le order group start h.0 in
      let more = chain_behind groups count end (omega (arith, on, some)) h.1 ranged.1 clean.1 there in
      let first : List Stretch = flat_map (looked_at (number_of order) bytes) (directories 3 (number_of order) bytes Tiff (even start)) in
      let rest : List Stretch = flat_map (looked_at (number_of order) bytes) (chain_directories count (number_of order) bytes next) in
      let lie : AllByRecursion (Lies start end) first = all_weaker (In draft start Tiff) (Lies start end) (in_draft draft start) first one.inside in
      subst (Behind start) (sym (chain_step (number_of order) bytes count (even start) next (omega arith) read.end))
      (record {
        apart = apart_append first rest one.apart more.apart
            (each_apart (Lies start end) (λ (t : Stretch). end ≤ t.offset) (λ s t a b. inl (omega (arith, a.1, b))) first rest lie more.behind);
        behind = all_append (λ (t : Stretch). start ≤ t.offset) first rest
            (all_weaker (Lies start end) (λ (t : Stretch). start ≤ t.offset) (λ t a. a.0) first lie)
            (all_weaker (λ (t : Stretch). end ≤ t.offset) (λ (t : Stretch). start ≤ t.offset) (λ t a. omega (arith, a, on)) rest more.behind);
      })

-- ---- the image

image_behind : (order : Order) (groups : List Group) → AreRanged groups → HavePlainTexts groups → write_fault groups ≡ None
    → Behind 8 (ordered_footprint (number_of order) (image order groups))
unfolding write_fault image
image_behind order [] ranged clean h = absurd cc
image_behind order (group ∷ groups) ranged clean h =
    let all : List Group = group ∷ groups in
    let accepted = not_refused all h in
    let end = accepted.small in
    let len = length-image order all accepted.each in
    let stands = parts_stand order all accepted.each in
    let behind = chain_behind order (image order all) (omega arith) all 8 8 (omega arith) accepted.each ranged clean stands.1 in
    subst (λ p. Behind 8 (flat_map (looked_at (number_of order) (image order all)) (chain_directories 8 (number_of order) (image order all) p)))
    (sym (image_first order all)) behind

-- Reading looks at no byte of an image as two things.
pub image_looks_apart : (order : Order) (groups : List Group) → AreRanged groups → HavePlainTexts groups → write_fault groups ≡ None
    → looks_apart (image order groups) ≡ true
image_looks_apart order groups ranged clean h =
    let bytes : List ℕ = image order groups in
    let behind = image_behind order groups ranged clean h in
    let header_stretch : Stretch = record { offset = 0; len = 8 } in
    let all : footprint bytes ≡ header_stretch ∷ ordered_footprint (number_of order) bytes =
    λ i. header_stretch ∷ elim (image_header order groups h i) as (λ _. List Stretch) [ Ok found ↦ ordered_footprint (number_of found) bytes | Err fault ↦ [] ] in
    ap are_apart all
    ∙ apart_computes (header_stretch ∷ ordered_footprint (number_of order) bytes) (
      all_weaker (λ (t : Stretch). 8 ≤ t.offset) (IsApart header_stretch) (λ t a. inl (omega (arith, a))) (ordered_footprint (number_of order) bytes) behind.behind,
      behind.apart,
    )
