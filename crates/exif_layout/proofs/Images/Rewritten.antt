-- Rewriting what an image holds gives the same image.
use Rattle.std.proofs.Common.{◌≡◌, ℕ, zero, suc, ◌+◌, ◌<◌, ◌≤◌, ◌≢◌, List, [], ◌∷◌, ◌++◌, length, map, max, refl, sym, ap, ◌∙◌, arith, Bool, true, false, cond, Option, Some, None}
use Rattle.std.specs.Prelude.{if◌then◌else◌, ◌==◌, nat_le, nat_lt}
use Rattle.std.specs.List.{AllByRecursion, flat_map, filter}
use Rattle.std.proofs.lemmas.Bool.{ne_eqb, ltb-true, ltb-false}
use Rattle.std.proofs.lemmas.List.{append-nil, append_assoc}
use Rattle.std.proofs.lemmas.List.Concat.{flat_map-append}
use Rattle.std.proofs.lemmas.List.Elements.{filter-append}
use Rattle.exif_base.specs.declared.endian.Order.{Order}
use Rattle.exif_types.specs.Lookup.{context_eq}
use Rattle.exif_table.specs.declared.context.Context.{Context}
use Rattle.exif_table.specs.declared.context.Context.TheVariants.{Tiff, Exif, Gps, Interop}
use Rattle.exif_types.specs.declared.field.Field.{Field}
use Rattle.exif_layout.specs.Groups.{Group, Entry, empty_group, is_ignored, changed, with_entry, with_strips, with_tiles, with_jpeg, entry_of, pushed, strips_set, tiles_set, jpeg_set, single, blocks_in, pushed_in}
use Rattle.exif_layout.specs.Slots.{Draft, draft_of, Slot, Content, Known, OffsetsOf, LengthsOf, OffsetOf, known, in_tag_order, set_slots, block_slots, block_list, pointer_slots, slots_of, tiff_slots, exif_slots, gps_slots, interop_slots, content_len}
use Rattle.exif_layout.specs.declared.block_kind.BlockKind.{BlockKind}
use Rattle.exif_layout.specs.declared.block_kind.BlockKind.TheVariants.{Strips, Tiles, Jpeg}
use Rattle.exif_layout.specs.Offsets.{written, draft_end, even, after_value, value_of, directory_offset, values_offset}
use Rattle.exif_layout.specs.Flat.{entry_fields, directory_fields, flat_from, flat}
use Rattle.exif_layout.specs.Refused.{write_fault}
use Rattle.exif_layout.specs.Image.{parts, laid, image}
use Rattle.exif_layout.specs.Ranged.{IsEntry, AreRanged}
use Rattle.exif_layout.proofs.Images.Words.{IsAccepted}
use Rattle.exif_layout.specs.Rewriting.{pushed_all, set_if, blocks_set, all_blocks_set, rewritten, RewritesSame}
use Rattle.exif_tiff.proofs.Members.{all_append}
use Rattle.exif_layout.proofs.Images.Whole.{not_refused}
use Rattle.exif_layout.proofs.Images.Sorting.{sorted_again, filter-sorted}
use Rattle.exif_layout.proofs.Images.Pushing.{group_at, slots_in, added, pushed_all_adds, pushed_all_blocks, blocks_at, with_blocks, or_else, all_set_at, length-changed}
use Rattle.exif_layout.proofs.Images.Flat.{is_pushed}
use Rattle.exif_layout.proofs.Images.Shares.{top_adds, offsets_ignored, lengths_ignored}

-- fields of another number add nothing
pub added_elsewhere : (ifd : ℕ) (context : Context) (field : Field) → field.ifd_num.0 ≢ ifd → added ifd context field ≡ []
added_elsewhere ifd context field h =
    elim (is_ignored field.tag.0 field.tag.1) as
    (λ b. (if b then [] else (if field.ifd_num.0 == ifd then (if context_eq field.tag.0 context then known (entry_of field) ∷ [] else []) else [])) ≡ []) [
      | true ↦ refl
      | false ↦ rw (ne_eqb field.ifd_num.0 ifd h) refl
    ]

-- each field of a list has a number
abbrev pub AllNumbered : ℕ → List Field → Type 0
AllNumbered ifd fields = AllByRecursion (λ field. field.ifd_num.0 ≡ ifd) fields

module _ (draft : Draft) (start ifd : ℕ) where
  content_numbered : (fields : Context → List Field) → ((child : Context) → AllNumbered ifd (fields child)) → (here : Context) (tag offset : ℕ) (content : Content)
      → AllNumbered ifd (entry_fields fields here ifd (record { tag = tag; content = content; value = value_of draft start content; offset = offset }))
  content_numbered fields h here tag offset (Known value) = (refl, tt)
  content_numbered fields h here tag offset (OffsetsOf kind lengths) = (refl, tt)
  content_numbered fields h here tag offset (LengthsOf kind lengths) = (refl, tt)
  content_numbered fields h here tag offset (OffsetOf child) = h child

  entries_numbered : (fields : Context → List Field) → ((child : Context) → AllNumbered ifd (fields child)) → (here : Context) (at values : ℕ) (slots : List Slot)
      → AllNumbered ifd (flat_map (entry_fields fields here ifd) (written draft start at values slots))
  entries_numbered fields h here at values [] = tt
  entries_numbered fields h here at values (slot ∷ slots) =
      all_append (λ field. field.ifd_num.0 ≡ ifd) _ _
      (content_numbered fields h here slot.tag (if nat_le (content_len slot.content) 4 then at + 8 else even values) slot.content)
      (entries_numbered fields h here (at + 12) (after_value values (content_len slot.content)) slots)

  -- all fields of a directory, and of its children, have the number that it has in the chain
  pub fields_numbered : (depth : ℕ) (here : Context) → AllNumbered ifd (directory_fields draft start ifd depth here)
  fields_numbered zero here = tt
  fields_numbered (suc depth) here =
      entries_numbered (directory_fields draft start ifd depth) (fields_numbered depth) here (directory_offset draft start here + 2) (values_offset draft start here) (draft.slots here)

add_nothing : (ifd n : ℕ) (context : Context) (fields : List Field) → n ≢ ifd → AllNumbered n fields → flat_map (added ifd context) fields ≡ []
add_nothing ifd n context [] h a = refl
add_nothing ifd n context (field ∷ fields) h a =
    λ i. added_elsewhere ifd context field (λ e. h (sym a.0 ∙ e)) i ++ add_nothing ifd n context fields h a.1 i

later_add_nothing : (groups : List Group) (ifd n start : ℕ) (context : Context) → ifd < n → flat_map (added ifd context) (flat_from n start (map draft_of groups)) ≡ []
later_add_nothing [] ifd n start context h = refl
later_add_nothing (group ∷ groups) ifd n start context h =
    flat_map-append (added ifd context) (directory_fields (draft_of group) start n 3 Tiff) (flat_from (suc n) (draft_end (draft_of group) start) (map draft_of groups))
    ∙ (λ i. add_nothing ifd n context (directory_fields (draft_of group) start n 3 Tiff) (λ e. omega arith) (fields_numbered (draft_of group) start n 3 Tiff) i
    ++ later_add_nothing groups ifd (suc n) (draft_end (draft_of group) start) context (omega arith) i)

-- what the flat fields add to a directory
pub flat_adds : (groups : List Group) (n m start : ℕ) (context : Context) → m < length groups
    → flat_map (added (n + m) context) (flat_from n start (map draft_of groups)) ≡ filter (is_pushed context) (slots_of (group_at groups m) context)
flat_adds [] n m start context h = absurd (omega arith)
flat_adds (group ∷ groups) n zero start context h =
    let e : n + 0 ≡ n = omega arith in
    rw e (flat_map-append (added n context) (directory_fields (draft_of group) start n 3 Tiff) (flat_from (suc n) (draft_end (draft_of group) start) (map draft_of groups))
    ∙ (λ i. top_adds group start n context i ++ later_add_nothing groups n (suc n) (draft_end (draft_of group) start) context (omega arith) i)
    ∙ append-nil _)
flat_adds (group ∷ groups) n (suc m) start context h =
    let e : n + suc m ≡ suc n + m = omega arith in
    rw e (flat_map-append (added (suc n + m) context) (directory_fields (draft_of group) start n 3 Tiff) (flat_from (suc n) (draft_end (draft_of group) start) (map draft_of groups))
    ∙ (λ i. add_nothing (suc n + m) n context (directory_fields (draft_of group) start n 3 Tiff) (λ k. omega arith) (fields_numbered (draft_of group) start n 3 Tiff) i
    ++ flat_adds groups (suc n) m (draft_end (draft_of group) start) context (omega arith) i))

-- entries with tags that are none of the writer's own
abbrev pub NoneIgnored : Context → List Entry → Type 0
NoneIgnored context entries = AllByRecursion (λ entry. is_ignored context entry.tag ≡ false) entries

none_ignored : (context : Context) (entries : List Entry) → AllByRecursion (IsEntry context) entries → NoneIgnored context entries
none_ignored context [] h = tt
none_ignored context (entry ∷ entries) h = (h.0.pushed, none_ignored context entries h.1)

pushed_pass : (context : Context) (entries : List Entry) → NoneIgnored context entries → filter (is_pushed context) (map known entries) ≡ map known entries
pushed_pass context [] h = refl
pushed_pass context (entry ∷ entries) h = rw h.0 (ap (λ r. known entry ∷ r) (pushed_pass context entries h.1))

blocks_fail : (kind : BlockKind) (texts : Option (List (List ℕ))) → filter (is_pushed Tiff) (set_slots kind texts) ≡ []
blocks_fail kind None = refl
blocks_fail kind (Some texts) = rw (offsets_ignored kind, lengths_ignored kind) refl

pointer_fails : (context : Context) (tag : ℕ) (child : Context) (l : List Slot) → is_pushed context (record { tag = tag; content = OffsetOf child }) ≡ false
    → filter (is_pushed context) (pointer_slots tag child l) ≡ []
pointer_fails context tag child [] h = refl
pointer_fails context tag child (x ∷ l) h = rw h refl

-- the pushed entries of a directory, in tag order
pub pushed_sorted : (group : Group) (context : Context) → NoneIgnored context (pushed_in group context)
    → filter (is_pushed context) (slots_of group context) ≡ in_tag_order (map known (pushed_in group context))
unfolding tiff_slots exif_slots gps_slots interop_slots
pushed_sorted group Tiff h =
    let k : List Slot = map known group.tiff in
    let s : List Slot = block_slots group Strips in
    let t : List Slot = block_slots group Tiles in
    let j : List Slot = block_slots group Jpeg in
    let e : List Slot = pointer_slots 0x8769 Exif (exif_slots group) in
    let g : List Slot = pointer_slots 0x8825 Gps (gps_slots group) in
    let test : Slot → Bool = is_pushed Tiff in
    filter-sorted test (k ++ s ++ t ++ j ++ e ++ g)
    ∙ ap in_tag_order (
    filter-append test (k ++ s ++ t ++ j ++ e) g ∙ (λ i. filter-append test (k ++ s ++ t ++ j) e i ++ pointer_fails Tiff 0x8825 Gps (gps_slots group) refl i)
    ∙ append-nil _ ∙ (λ i. filter-append test (k ++ s ++ t) j i ++ pointer_fails Tiff 0x8769 Exif (exif_slots group) refl i)
    ∙ append-nil _ ∙ (λ i. filter-append test (k ++ s) t i ++ blocks_fail Jpeg (blocks_in group Jpeg) i)
    ∙ append-nil _ ∙ (λ i. filter-append test k s i ++ blocks_fail Tiles (blocks_in group Tiles) i)
    ∙ append-nil _ ∙ (λ i. pushed_pass Tiff group.tiff h i ++ blocks_fail Strips (blocks_in group Strips) i)
    ∙ append-nil _
    )
pushed_sorted group Exif h =
    let k : List Slot = map known group.exif in
    let e : List Slot = pointer_slots 0xa005 Interop (interop_slots group) in
    filter-sorted (is_pushed Exif) (k ++ e)
    ∙ ap in_tag_order (filter-append (is_pushed Exif) k e ∙ (λ i. pushed_pass Exif group.exif h i ++ pointer_fails Exif 0xa005 Interop (interop_slots group) refl i) ∙ append-nil _)
pushed_sorted group Gps h = filter-sorted (is_pushed Gps) (map known group.gps) ∙ ap in_tag_order (pushed_pass Gps group.gps h)
pushed_sorted group Interop h = filter-sorted (is_pushed Interop) (map known group.interop) ∙ ap in_tag_order (pushed_pass Interop group.interop h)

-- two groups with the same blocks, one of which has the other's entries in tag order
record IsSorted (new old : Group) : Type 0 where
  blocks : blocks_at new ≡ blocks_at old
  slots : (context : Context) → map known (pushed_in new context) ≡ in_tag_order (map known (pushed_in old context))

sorted_alone : (xs : List Slot) → in_tag_order (in_tag_order xs) ≡ in_tag_order xs
sorted_alone xs = ap in_tag_order (sym (append-nil (in_tag_order xs))) ∙ sorted_again xs [] ∙ ap in_tag_order (append-nil xs)

right_nested : (k s t j e g : List Slot) → k ++ s ++ t ++ j ++ e ++ g ≡ k ++ (s ++ (t ++ (j ++ (e ++ g))))
right_nested k s t j e g = simp append_assoc

same_interop : (new old : Group) → IsSorted new old → interop_slots new ≡ interop_slots old
unfolding interop_slots
same_interop new old h = ap in_tag_order (h.slots Interop) ∙ sorted_alone (map known old.interop)

same_gps : (new old : Group) → IsSorted new old → gps_slots new ≡ gps_slots old
unfolding gps_slots
same_gps new old h = ap in_tag_order (h.slots Gps) ∙ sorted_alone (map known old.gps)

same_exif : (new old : Group) → IsSorted new old → exif_slots new ≡ exif_slots old
unfolding exif_slots
same_exif new old h =
    (λ i. in_tag_order (h.slots Exif i ++ pointer_slots 0xa005 Interop (same_interop new old h i)))
    ∙ sorted_again (map known old.exif) (pointer_slots 0xa005 Interop (interop_slots old))

same_tiff : (new old : Group) → IsSorted new old → tiff_slots new ≡ tiff_slots old
unfolding tiff_slots
same_tiff new old h =
    let s : List Slot = block_slots old Strips in
    let t : List Slot = block_slots old Tiles in
    let j : List Slot = block_slots old Jpeg in
    let e : List Slot = pointer_slots 0x8769 Exif (exif_slots old) in
    let g : List Slot = pointer_slots 0x8825 Gps (gps_slots old) in
    (λ i. in_tag_order (h.slots Tiff i ++ set_slots Strips (h.blocks i).strips ++ set_slots Tiles (h.blocks i).tiles
    ++ set_slots Jpeg (single (h.blocks i).jpeg) ++ pointer_slots 0x8769 Exif (same_exif new old h i) ++ pointer_slots 0x8825 Gps (same_gps new old h i)))
    ∙ ap in_tag_order (right_nested (in_tag_order (map known old.tiff)) s t j e g)
    ∙ sorted_again (map known old.tiff) (s ++ (t ++ (j ++ (e ++ g))))
    ∙ ap in_tag_order (sym (right_nested (map known old.tiff) s t j e g))

same_slots : (new old : Group) → IsSorted new old → (context : Context) → slots_of new context ≡ slots_of old context
same_slots new old h Tiff = same_tiff new old h
same_slots new old h Exif = same_exif new old h
same_slots new old h Gps = same_gps new old h
same_slots new old h Interop = same_interop new old h

same_blocks : (new old : Group) → IsSorted new old → (kind : BlockKind) → block_list (blocks_in new kind) ≡ block_list (blocks_in old kind)
same_blocks new old h Strips = λ i. block_list (h.blocks i).strips
same_blocks new old h Tiles = λ i. block_list (h.blocks i).tiles
same_blocks new old h Jpeg = λ i. block_list (single (h.blocks i).jpeg)

same_draft : (new old : Group) → IsSorted new old → draft_of new ≡ draft_of old
same_draft new old h = λ i. record { slots = λ context. same_slots new old h context i; blocks = λ kind. same_blocks new old h kind i }

or_nothing : {X : Type 0} (x old : Option X) → old ≡ None → or_else x old ≡ x
or_nothing None old h = h
or_nothing (Some x) old h = refl

with_blocks_in : (from group : Group) (context : Context) → pushed_in (with_blocks from group) context ≡ pushed_in group context
with_blocks_in from group Tiff = refl
with_blocks_in from group Exif = refl
with_blocks_in from group Gps = refl
with_blocks_in from group Interop = refl

nothing_in : (ifd : ℕ) (context : Context) → slots_in [] ifd context ≡ []
nothing_in ifd Tiff = refl
nothing_in ifd Exif = refl
nothing_in ifd Gps = refl
nothing_in ifd Interop = refl

-- each group is made again, its entries in tag order
rewritten_at : (groups : List Group) (m : ℕ) → m < length groups → ((context : Context) → AllByRecursion (IsEntry context) (pushed_in (group_at groups m) context))
    → IsSorted (group_at (rewritten groups) m) (group_at groups m)
unfolding flat
rewritten_at groups m h entries =
    let zero_add : 0 + m ≡ m = omega arith in
    let made : List Group = pushed_all (flat groups) [] in
    let at : group_at (rewritten groups) m ≡ with_blocks (group_at groups m) (group_at made m) = rw zero_add at (all_set_at groups 0 m made h) in
    let adds : (context : Context) → flat_map (added m context) (flat groups) ≡ filter (is_pushed context) (slots_of (group_at groups m) context) =
    λ context. rw zero_add at (flat_adds groups 0 m 8 context h) in
    let bare = pushed_all_blocks (flat groups) [] m in
    record {
      blocks = ap blocks_at at ∙ (λ i. blocks_at (with_blocks (group_at groups m) (record (group_at made m) { strips = (bare i).strips; tiles = (bare i).tiles; jpeg = (bare i).jpeg })))
          ∙ (λ i. record { strips = or_nothing (group_at groups m).strips None refl i; tiles = or_nothing (group_at groups m).tiles None refl i; jpeg = or_nothing (group_at groups m).jpeg None refl i });
      slots = λ context. ap (λ g. map known (pushed_in g context)) at ∙ ap (map known) (with_blocks_in (group_at groups m) (group_at made m) context)
          ∙ pushed_all_adds (flat groups) [] m context ∙ ap (λ r. r ++ flat_map (added m context) (flat groups)) (nothing_in m context)
          ∙ adds context ∙ pushed_sorted (group_at groups m) context (none_ignored context (pushed_in (group_at groups m) context) (entries context));
    }

length-pushed : (field : Field) (groups : List Group) (n : ℕ) → field.ifd_num.0 < n → length groups ≤ n → length (pushed field groups) ≤ n
length-pushed field groups n h k =
    elim (is_ignored field.tag.0 field.tag.1) as (λ b. length (if b then groups else changed field.ifd_num.0 (with_entry field.tag.0 (entry_of field)) groups) ≤ n) [
      | true ↦ k
      | false ↦ (let e = length-changed field.ifd_num.0 (with_entry field.tag.0 (entry_of field)) groups in omega arith)
    ]

-- fields with directory numbers below n make no more than n groups, if there were no more
pub length-pushed_all : (fields : List Field) (groups : List Group) (n : ℕ) → AllByRecursion (λ field. field.ifd_num.0 < n) fields → length groups ≤ n → length (pushed_all fields groups) ≤ n
length-pushed_all [] groups n h k = k
length-pushed_all (field ∷ fields) groups n h k = length-pushed_all fields (pushed field groups) n h.1 (length-pushed field groups n h.0 k)

length-set_if : {X : Type 0} (setter : X → ℕ → List Group → List Group) (set : Option X) (ifd n : ℕ) (groups : List Group)
    → ((x : X) (gs : List Group) → length (setter x ifd gs) ≡ max (length gs) (suc ifd)) → ifd < n → length groups ≤ n → length (set_if setter set ifd groups) ≤ n
length-set_if setter None ifd n groups h low k = k
length-set_if setter (Some x) ifd n groups h low k = let e = h x groups in omega arith

length-blocks_set : (from : Group) (ifd n : ℕ) (groups : List Group) → ifd < n → length groups ≤ n → length (blocks_set from ifd groups) ≤ n
length-blocks_set from ifd n groups low k =
    length-set_if jpeg_set from.jpeg ifd n _ (λ x gs. length-changed ifd (with_jpeg x) gs) low
    (length-set_if tiles_set from.tiles ifd n _ (λ x gs. length-changed ifd (with_tiles x) gs) low
    (length-set_if strips_set from.strips ifd n groups (λ x gs. length-changed ifd (with_strips x) gs) low k))

length-all_set : (froms : List Group) (ifd n : ℕ) (groups : List Group) → ifd + length froms ≤ n → length groups ≤ n → length (all_blocks_set ifd froms groups) ≤ n
length-all_set [] ifd n groups low k = k
length-all_set (from ∷ froms) ifd n groups low k =
    length-all_set froms (suc ifd) n (blocks_set from ifd groups) (omega arith) (length-blocks_set from ifd n groups (omega arith) k)

all_numbered_below : (n ifd : ℕ) (fields : List Field) → ifd < n → AllNumbered ifd fields → AllByRecursion (λ field. field.ifd_num.0 < n) fields
all_numbered_below n ifd [] h a = tt
all_numbered_below n ifd (field ∷ fields) h a = (let e = a.0 in omega arith, all_numbered_below n ifd fields h a.1)

-- no flat field has a directory number past that of the last group
pub flat_below : (groups : List Group) (ifd start n : ℕ) → ifd + length groups ≤ n → AllByRecursion (λ field. field.ifd_num.0 < n) (flat_from ifd start (map draft_of groups))
flat_below [] ifd start n h = tt
flat_below (group ∷ groups) ifd start n h =
    all_append (λ field. field.ifd_num.0 < n) _ _
    (all_numbered_below n ifd (directory_fields (draft_of group) start ifd 3 Tiff) (omega arith) (fields_numbered (draft_of group) start ifd 3 Tiff))
    (flat_below groups (suc ifd) (draft_end (draft_of group) start) n (omega arith))

-- a number past the last group names the empty group
pub past_end : (groups : List Group) (m : ℕ) → length groups ≤ m → group_at groups m ≡ empty_group
past_end [] m h = refl
past_end (group ∷ groups) zero h = absurd (omega arith)
past_end (group ∷ groups) (suc m) h = past_end groups m (omega arith)

empty_has_none : length (tiff_slots empty_group) ≡ 0
unfolding tiff_slots exif_slots gps_slots interop_slots
empty_has_none = refl

-- what holds of all groups holds of the group with each number below their count
pub all_at : (P : Group → Type 0) (groups : List Group) (m : ℕ) → m < length groups → AllByRecursion P groups → P (group_at groups m)
all_at P [] m h a = absurd (omega arith)
all_at P (group ∷ groups) zero h a = a.0
all_at P (group ∷ groups) (suc m) h a = all_at P groups m (omega arith) a.1

-- the last group is in the image, since its directory has an entry
length-rewritten : (groups : List Group) → AreRanged groups → AllByRecursion IsAccepted groups → length (rewritten groups) ≡ length groups
unfolding flat
length-rewritten [] ranged h = refl
length-rewritten (first ∷ more) ranged h =
    let groups : List Group = first ∷ more in
    let m : ℕ = length more in
    let most : length (rewritten groups) ≤ length groups =
    length-all_set groups 0 (length groups) (pushed_all (flat groups) []) (omega arith)
    (length-pushed_all (flat groups) [] (length groups) (flat_below groups 0 8 (length groups) (omega arith)) (omega arith)) in
    let last = all_at IsAccepted groups m (omega arith) h in
    let entries = all_at (λ group. (context : Context) → AllByRecursion (IsEntry context) (pushed_in group context)) groups m (omega arith) ranged in
    let same : tiff_slots (group_at (rewritten groups) m) ≡ tiff_slots (group_at groups m) = same_tiff _ _ (rewritten_at groups m (omega arith) entries) in
    go groups m (omega arith) last.some same (nat_lt m (length (rewritten groups))) refl most
  where
    go : (groups : List Group) (m : ℕ) → length groups ≡ suc m → 0 < length (tiff_slots (group_at groups m)) → tiff_slots (group_at (rewritten groups) m) ≡ tiff_slots (group_at groups m)
        → (b : Bool) → nat_lt m (length (rewritten groups)) ≡ b → length (rewritten groups) ≤ length groups → length (rewritten groups) ≡ length groups
    go groups m n some same true e most = let low = ltb-true m (length (rewritten groups)) e in omega arith
    go groups m n some same false e most =
        let past = past_end (rewritten groups) m (ltb-false m (length (rewritten groups)) e) in
        let a : length (tiff_slots (group_at (rewritten groups) m)) ≡ 0 = ap (λ g. length (tiff_slots g)) past ∙ empty_has_none in
        let b = ap length same in
        absurd (omega arith)

same_drafts : (xs ys : List Group) → length xs ≡ length ys → ((m : ℕ) → m < length ys → draft_of (group_at xs m) ≡ draft_of (group_at ys m)) → map draft_of xs ≡ map draft_of ys
same_drafts [] [] n h = refl
same_drafts [] (y ∷ ys) n h = absurd (omega arith)
same_drafts (x ∷ xs) [] n h = absurd (omega arith)
same_drafts (x ∷ xs) (y ∷ ys) n h = λ i. h 0 (omega arith) i ∷ same_drafts xs ys (omega arith) (λ m k. h (suc m) (omega arith)) i

-- what is written of the groups that are made again is what was written
pub rewritten_drafts : (groups : List Group) → AreRanged groups → AllByRecursion IsAccepted groups → map draft_of (rewritten groups) ≡ map draft_of groups
rewritten_drafts groups ranged h =
    same_drafts (rewritten groups) groups (length-rewritten groups ranged h)
    (λ m k. same_draft _ _ (rewritten_at groups m k (all_at (λ group. (context : Context) → AllByRecursion (IsEntry context) (pushed_in group context)) groups m k ranged)))

-- Rewriting what an image holds gives the same image.
pub rewrites_same : (order : Order) (groups : List Group) → AreRanged groups → write_fault groups ≡ None → RewritesSame order groups
unfolding image
rewrites_same order groups ranged h = ap (λ drafts. laid 0 (parts order drafts)) (rewritten_drafts groups ranged (not_refused groups h).each)
