-- The fields that name a group's blocks.
use Rattle.std.proofs.Common.{◌≡◌, ℕ, zero, suc, ◌+◌, ◌<◌, ◌≢◌, List, [], ◌∷◌, ◌++◌, length, map, refl, sym, ap, ◌∙◌, arith, Bool, true, false, cond, Option, Some, None}
use Rattle.std.specs.Prelude.{if◌then◌else◌, ◌==◌, ◌&&◌, nat_le}
use Rattle.std.specs.List.{AllByRecursion, flat_map, filter}
use Rattle.std.proofs.lemmas.Bool.{eq-eqb, ne_eqb, or_parts}
use Rattle.std.proofs.lemmas.List.{append-nil}
use Rattle.std.proofs.Math.Bool.{and-false}
use Rattle.std.proofs.lemmas.List.Elements.{filter-append}
use Rattle.exif_layout.specs.Encoding.{moved_to}
use Rattle.exif_table.specs.declared.context.Context.{Context}
use Rattle.exif_table.specs.declared.context.Context.TheVariants.{Tiff, Exif, Gps}
use Rattle.exif_types.specs.declared.field.Field.{Field}
use Rattle.exif_layout.specs.Groups.{Group, Entry, is_ignored, single, pushed_in, blocks_in, offsets_tag, lengths_tag}
use Rattle.exif_layout.specs.Slots.{Draft, draft_of, Slot, Content, Known, OffsetsOf, LengthsOf, OffsetOf, known, in_tag_order, set_slots, block_slots, pointer_slots, slots_of, tiff_slots, exif_slots, gps_slots, content_len}
use Rattle.exif_layout.specs.declared.block_kind.BlockKind.{BlockKind}
use Rattle.exif_layout.specs.declared.block_kind.BlockKind.TheVariants.{Strips, Tiles, Jpeg}
use Rattle.exif_layout.specs.Offsets.{written, draft_end, even, after_value, value_of, directory_offset, values_offset}
use Rattle.exif_layout.specs.Flat.{field_of, entry_fields, directory_fields, flat_from, flat}
use Rattle.exif_layout.specs.Ranged.{IsEntry}
use Rattle.exif_layout.specs.Layout.{is_tiff, fields_under}
use Rattle.exif_tiff.proofs.Members.{all_append}
use Rattle.exif_layout.proofs.Images.Sorting.{filter-sorted}
use Rattle.exif_layout.proofs.Images.Slots.{all_slots, all_tiff}
use Rattle.exif_layout.proofs.Images.Pushing.{group_at}
use Rattle.exif_layout.proofs.Images.Shares.{always}
use Rattle.exif_layout.proofs.Images.Rewritten.{AllNumbered, fields_numbered}

-- whether a field is one of a top directory under a tag
abbrev pub under : ℕ → ℕ → Field → Bool
under tag ifd field = is_tiff field.tag.0 && (field.tag.1 == tag) && (field.ifd_num.0 == ifd)

-- children lie in other contexts
ChildIsLow : Slot → Type 0
ChildIsLow slot = elim slot.content [ OffsetOf child ↦ is_tiff child ≡ false | _ ↦ Unit {0} ]

blocks_low : (kind : BlockKind) (texts : Option (List (List ℕ))) → AllByRecursion ChildIsLow (set_slots kind texts)
unfolding ChildIsLow
blocks_low kind None = tt
blocks_low kind (Some texts) = (tt, (tt, tt))

children_low : (group : Group) (context : Context) → AllByRecursion ChildIsLow (slots_of group context)
unfolding ChildIsLow
children_low group =
    all_slots (λ context. ChildIsLow) group (λ context. always (λ entry. ChildIsLow (known entry)) (λ entry. tt) (pushed_in group context))
    (λ kind. blocks_low kind (blocks_in group kind))
    (λ some. refl) (λ some. refl) (λ some. refl)

AllLow : List Field → Type 0
AllLow fields = AllByRecursion (λ field. is_tiff field.tag.0 ≡ false) fields

module _ (draft : Draft) (start ifd : ℕ) where
  content_low : (fields : Context → List Field) → ((child : Context) → is_tiff child ≡ false → AllLow (fields child)) → (here : Context) → is_tiff here ≡ false
      → (tag offset : ℕ) (content : Content) → ChildIsLow (record { tag = tag; content = content })
      → AllLow (entry_fields fields here ifd (record { tag = tag; content = content; value = value_of draft start content; offset = offset }))
  unfolding AllLow ChildIsLow
  content_low fields h here low tag offset (Known value) c = (low, tt)
  content_low fields h here low tag offset (OffsetsOf kind lengths) c = (low, tt)
  content_low fields h here low tag offset (LengthsOf kind lengths) c = (low, tt)
  content_low fields h here low tag offset (OffsetOf child) c = h child c

  entries_low : (fields : Context → List Field) → ((child : Context) → is_tiff child ≡ false → AllLow (fields child)) → (here : Context) → is_tiff here ≡ false
      → (at values : ℕ) (slots : List Slot) → AllByRecursion ChildIsLow slots → AllLow (flat_map (entry_fields fields here ifd) (written draft start at values slots))
  unfolding AllLow
  entries_low fields h here low at values [] c = tt
  entries_low fields h here low at values (slot ∷ slots) c =
      all_append (λ field. is_tiff field.tag.0 ≡ false) _ _
      (content_low fields h here low slot.tag (if nat_le (content_len slot.content) 4 then at + 8 else even values) slot.content c.0)
      (entries_low fields h here low (at + 12) (after_value values (content_len slot.content)) slots c.1)

  fields_low : ((here : Context) → AllByRecursion ChildIsLow (draft.slots here)) → (depth : ℕ) (here : Context) → is_tiff here ≡ false → AllLow (directory_fields draft start ifd depth here)
  unfolding AllLow
  fields_low c zero here low = tt
  fields_low c (suc depth) here low =
      entries_low (directory_fields draft start ifd depth) (fields_low c depth) here low (directory_offset draft start here + 2) (values_offset draft start here) (draft.slots here) (c here)

none_under : (tag ifd : ℕ) (fields : List Field) → AllLow fields → filter (under tag ifd) fields ≡ []
unfolding AllLow
none_under tag ifd [] h = refl
none_under tag ifd (field ∷ fields) h = rw h.0 (none_under tag ifd fields h.1)

-- what has a tag of the writer's own doesn't depend on its offset, and is no pointer
abbrev IsNamed : ℕ → Slot → Type 0
IsNamed t slot =
    elim slot.content [
      | Known value ↦ (slot.tag == t) ≡ true → (p : ℕ) → moved_to p value ≡ value
      | OffsetsOf kind lengths ↦ Unit {0}
      | LengthsOf kind lengths ↦ Unit {0}
      | OffsetOf child ↦ ((slot.tag == t) ≡ false) × (is_tiff child ≡ false)
    ]

-- the field that an entry of a top directory is
abbrev pub top_field : Draft → ℕ → ℕ → Slot → Field
top_field draft start ifd slot = field_of Tiff slot.tag ifd (value_of draft start slot.content)

module _ (draft : Draft) (start ifd t : ℕ) where
  content_named : (fields : Context → List Field) → ((child : Context) → is_tiff child ≡ false → filter (under t ifd) (fields child) ≡ [])
      → (tag offset : ℕ) (content : Content) → IsNamed t (record { tag = tag; content = content }) → (b : Bool) → (tag == t) ≡ b
      → filter (under t ifd) (entry_fields fields Tiff ifd (record { tag = tag; content = content; value = value_of draft start content; offset = offset }))
      ≡ cond b (top_field draft start ifd (record { tag = tag; content = content }) ∷ []) []
  content_named fields h tag offset (Known value) n true e = let own : (ifd == ifd) ≡ true = eq-eqb ifd ifd refl in rw (e, own, n e offset) refl
  content_named fields h tag offset (Known value) n false e = rw e refl
  content_named fields h tag offset (OffsetsOf kind lengths) n true e = let own : (ifd == ifd) ≡ true = eq-eqb ifd ifd refl in rw (e, own) refl
  content_named fields h tag offset (OffsetsOf kind lengths) n false e = rw e refl
  content_named fields h tag offset (LengthsOf kind lengths) n true e = let own : (ifd == ifd) ≡ true = eq-eqb ifd ifd refl in rw (e, own) refl
  content_named fields h tag offset (LengthsOf kind lengths) n false e = rw e refl
  content_named fields h tag offset (OffsetOf child) n true e = absurd (let k : true ≡ false = sym e ∙ n.0 in cc)
  content_named fields h tag offset (OffsetOf child) n false e = h child n.1

  entries_named : (fields : Context → List Field) → ((child : Context) → is_tiff child ≡ false → filter (under t ifd) (fields child) ≡ [])
      → (at values : ℕ) (slots : List Slot) → AllByRecursion (IsNamed t) slots
      → filter (under t ifd) (flat_map (entry_fields fields Tiff ifd) (written draft start at values slots)) ≡ map (top_field draft start ifd) (filter (λ slot. slot.tag == t) slots)
  entries_named fields h at values [] n = refl
  entries_named fields h at values (slot ∷ slots) n =
      filter-append (under t ifd)
      (entry_fields fields Tiff ifd (record { tag = slot.tag; content = slot.content; value = value_of draft start slot.content; offset = if nat_le (content_len slot.content) 4 then at + 8 else even values }))
      (flat_map (entry_fields fields Tiff ifd) (written draft start (at + 12) (after_value values (content_len slot.content)) slots))
      ∙ (λ i. content_named fields h slot.tag (if nat_le (content_len slot.content) 4 then at + 8 else even values) slot.content n.0 (slot.tag == t) refl i
      ++ entries_named fields h (at + 12) (after_value values (content_len slot.content)) slots n.1 i)
      ∙ chosen (slot.tag == t)
    where
      chosen : (b : Bool) → cond b (top_field draft start ifd slot ∷ []) [] ++ map (top_field draft start ifd) (filter (λ s. s.tag == t) slots)
          ≡ map (top_field draft start ifd) (cond b (slot ∷ filter (λ s. s.tag == t) slots) (filter (λ s. s.tag == t) slots))
      chosen true = refl
      chosen false = refl

-- where the parts of a group begin
abbrev pub start_at : ℕ → ℕ → List Group → ℕ
start_at zero start groups = start
start_at (suc m) start [] = start
start_at (suc m) start (group ∷ groups) = start_at m (draft_end (draft_of group) start) groups

none_elsewhere : (t ifd n : ℕ) (fields : List Field) → n ≢ ifd → AllNumbered n fields → filter (under t ifd) fields ≡ []
none_elsewhere t ifd n [] h a = refl
none_elsewhere t ifd n (field ∷ fields) h a =
    let off : (field.ifd_num.0 == ifd) ≡ false = ne_eqb field.ifd_num.0 ifd (λ e. h (sym a.0 ∙ e)) in
    let no' : under t ifd field ≡ false = ap (λ b. is_tiff field.tag.0 && (field.tag.1 == t) && b) off ∙ and-false (is_tiff field.tag.0 && (field.tag.1 == t)) in
    rw no' (none_elsewhere t ifd n fields h a.1)

none_later : (groups : List Group) (t ifd n start : ℕ) → ifd < n → filter (under t ifd) (flat_from n start (map draft_of groups)) ≡ []
none_later [] t ifd n start h = refl
none_later (group ∷ groups) t ifd n start h =
    filter-append (under t ifd) (directory_fields (draft_of group) start n 3 Tiff) (flat_from (suc n) (draft_end (draft_of group) start) (map draft_of groups))
    ∙ (λ i. none_elsewhere t ifd n (directory_fields (draft_of group) start n 3 Tiff) (λ e. omega arith) (fields_numbered (draft_of group) start n 3 Tiff) i
    ++ none_later groups t ifd (suc n) (draft_end (draft_of group) start) (omega arith) i)

tiff_named : (group : Group) (start ifd t : ℕ) → AllByRecursion (IsNamed t) (tiff_slots group)
    → filter (under t ifd) (directory_fields (draft_of group) start ifd 3 Tiff) ≡ map (top_field (draft_of group) start ifd) (filter (λ slot. slot.tag == t) (tiff_slots group))
tiff_named group start ifd t n =
    entries_named (draft_of group) start ifd t (directory_fields (draft_of group) start ifd 2)
    (λ child low. none_under t ifd (directory_fields (draft_of group) start ifd 2 child) (fields_low (draft_of group) start ifd (children_low group) 2 child low))
    (directory_offset (draft_of group) start Tiff + 2) (values_offset (draft_of group) start Tiff) (tiff_slots group) n

-- the fields under a tag of the writer's own
flat_named : (groups : List Group) (t n m start : ℕ) → m < length groups → AllByRecursion (IsNamed t) (tiff_slots (group_at groups m))
    → filter (under t (n + m)) (flat_from n start (map draft_of groups))
    ≡ map (top_field (draft_of (group_at groups m)) (start_at m start groups) (n + m)) (filter (λ slot. slot.tag == t) (tiff_slots (group_at groups m)))
flat_named [] t n m start h a = absurd (omega arith)
flat_named (group ∷ groups) t n zero start h a =
    let e : n + 0 ≡ n = omega arith in
    rw e (filter-append (under t n) (directory_fields (draft_of group) start n 3 Tiff) (flat_from (suc n) (draft_end (draft_of group) start) (map draft_of groups))
    ∙ (λ i. tiff_named group start n t a i ++ none_later groups t n (suc n) (draft_end (draft_of group) start) (omega arith) i) ∙ append-nil _)
flat_named (group ∷ groups) t n (suc m) start h a =
    let e : n + suc m ≡ suc n + m = omega arith in
    rw e (filter-append (under t (suc n + m)) (directory_fields (draft_of group) start n 3 Tiff) (flat_from (suc n) (draft_end (draft_of group) start) (map draft_of groups))
    ∙ (λ i. none_elsewhere t (suc n + m) n (directory_fields (draft_of group) start n 3 Tiff) (λ k. omega arith) (fields_numbered (draft_of group) start n 3 Tiff) i
    ++ flat_named groups t (suc n) m (draft_end (draft_of group) start) (omega arith) a i))

-- a tag of the writer's own, which no pushed entry and no pointer has
record IsOwn (t : ℕ) : Type 0 where
  pushed : (tag : ℕ) → is_ignored Tiff tag ≡ false → (tag == t) ≡ false
  exif : (0x8769 == t) ≡ false
  gps : (0x8825 == t) ≡ false

ignored_none : (tag : ℕ) → is_ignored Tiff tag ≡ false
    → ((tag == 0x111) ≡ false) × ((tag == 0x117) ≡ false) × ((tag == 0x144) ≡ false) × ((tag == 0x145) ≡ false) × ((tag == 0x201) ≡ false) × ((tag == 0x202) ≡ false)
ignored_none tag h =
    let a = or_parts (tag == 0x111) _ h in
    let b = or_parts (tag == 0x117) _ a.1 in
    let c = or_parts (tag == 0x144) _ b.1 in
    let d = or_parts (tag == 0x145) _ c.1 in
    let e = or_parts (tag == 0x201) _ d.1 in
    let f = or_parts (tag == 0x202) _ e.1 in
    (a.0, b.0, c.0, d.0, e.0, f.0)

own_offsets : (kind : BlockKind) → IsOwn (offsets_tag kind)
own_offsets Strips = record { pushed = λ tag h. (ignored_none tag h).0; exif = refl; gps = refl }
own_offsets Tiles = record { pushed = λ tag h. (ignored_none tag h).2; exif = refl; gps = refl }
own_offsets Jpeg = record { pushed = λ tag h. (ignored_none tag h).4; exif = refl; gps = refl }

own_lengths : (kind : BlockKind) → IsOwn (lengths_tag kind)
own_lengths Strips = record { pushed = λ tag h. (ignored_none tag h).1; exif = refl; gps = refl }
own_lengths Tiles = record { pushed = λ tag h. (ignored_none tag h).3; exif = refl; gps = refl }
own_lengths Jpeg = record { pushed = λ tag h. (ignored_none tag h).5; exif = refl; gps = refl }

named_pushed : (t : ℕ) → IsOwn t → (entries : List Entry) → AllByRecursion (IsEntry Tiff) entries → AllByRecursion (λ entry. IsNamed t (known entry)) entries
named_pushed t own [] h = tt
named_pushed t own (entry ∷ entries) h =
    ((λ e. absurd (let k : true ≡ false = sym e ∙ own.pushed entry.tag h.0.pushed in cc)), named_pushed t own entries h.1)

named_blocks : (t : ℕ) (kind : BlockKind) (texts : Option (List (List ℕ))) → AllByRecursion (IsNamed t) (set_slots kind texts)
named_blocks t kind None = tt
named_blocks t kind (Some texts) = (tt, (tt, tt))

named_slots : (group : Group) (t : ℕ) → IsOwn t → AllByRecursion (IsEntry Tiff) group.tiff → AllByRecursion (IsNamed t) (tiff_slots group)
named_slots group t own h =
    all_tiff (IsNamed t) group (named_pushed t own group.tiff h)
    (λ kind. named_blocks t kind (blocks_in group kind))
    (λ some. (own.exif, refl)) (λ some. (own.gps, refl))

pushed_not : (t : ℕ) → IsOwn t → (entries : List Entry) → AllByRecursion (IsEntry Tiff) entries → filter (λ slot. slot.tag == t) (map known entries) ≡ []
pushed_not t own [] h = refl
pushed_not t own (entry ∷ entries) h = rw (own.pushed entry.tag h.0.pushed) (pushed_not t own entries h.1)

pointer_not : (t tag : ℕ) (child : Context) (l : List Slot) → (tag == t) ≡ false → filter (λ slot. slot.tag == t) (pointer_slots tag child l) ≡ []
pointer_not t tag child [] h = refl
pointer_not t tag child (x ∷ l) h = rw h refl

-- the entries of one own tag come from the blocks
own_slots : (group : Group) (t : ℕ) → IsOwn t → AllByRecursion (IsEntry Tiff) group.tiff
    → filter (λ slot. slot.tag == t) (tiff_slots group)
    ≡ in_tag_order (filter (λ slot. slot.tag == t) (block_slots group Strips) ++ filter (λ slot. slot.tag == t) (block_slots group Tiles) ++ filter (λ slot. slot.tag == t) (block_slots group Jpeg))
unfolding tiff_slots
own_slots group t own h =
    let k : List Slot = map known group.tiff in
    let a : List Slot = block_slots group Strips in
    let b : List Slot = block_slots group Tiles in
    let j : List Slot = block_slots group Jpeg in
    let e : List Slot = pointer_slots 0x8769 Exif (exif_slots group) in
    let g : List Slot = pointer_slots 0x8825 Gps (gps_slots group) in
    let test : Slot → Bool = λ slot. slot.tag == t in
    filter-sorted test (k ++ a ++ b ++ j ++ e ++ g)
    ∙ ap in_tag_order (
    filter-append test (k ++ a ++ b ++ j ++ e) g ∙ (λ i. filter-append test (k ++ a ++ b ++ j) e i ++ pointer_not t 0x8825 Gps (gps_slots group) own.gps i)
    ∙ append-nil _ ∙ (λ i. filter-append test (k ++ a ++ b) j i ++ pointer_not t 0x8769 Exif (exif_slots group) own.exif i)
    ∙ append-nil _ ∙ (λ i. filter-append test (k ++ a) b i ++ filter test j)
    ∙ (λ i. filter-append test k a i ++ filter test b ++ filter test j)
    ∙ (λ i. pushed_not t own group.tiff h i ++ filter test a ++ filter test b ++ filter test j)
    )

-- the slot that gives the offsets of the blocks of a kind, where they are set
abbrev pub offsets_slots : BlockKind → Option (List (List ℕ)) → List Slot
offsets_slots kind None = []
offsets_slots kind (Some texts) = record { tag = offsets_tag kind; content = OffsetsOf kind (map length texts) } ∷ []

-- the slot that gives the lengths of the blocks of a kind, where they are set
abbrev pub lengths_slots : BlockKind → Option (List (List ℕ)) → List Slot
lengths_slots kind None = []
lengths_slots kind (Some texts) = record { tag = lengths_tag kind; content = LengthsOf kind (map length texts) } ∷ []

three_offsets : (kind : BlockKind) (a b j : Option (List (List ℕ)))
    → in_tag_order (filter (λ slot. slot.tag == offsets_tag kind) (set_slots Strips a) ++ filter (λ slot. slot.tag == offsets_tag kind) (set_slots Tiles b)
    ++ filter (λ slot. slot.tag == offsets_tag kind) (set_slots Jpeg j))
    ≡ offsets_slots kind (elim kind [ Strips ↦ a | Tiles ↦ b | Jpeg ↦ j ])
three_offsets Strips None None None = refl
three_offsets Strips None None (Some j) = refl
three_offsets Strips None (Some b) None = refl
three_offsets Strips None (Some b) (Some j) = refl
three_offsets Strips (Some a) None None = refl
three_offsets Strips (Some a) None (Some j) = refl
three_offsets Strips (Some a) (Some b) None = refl
three_offsets Strips (Some a) (Some b) (Some j) = refl
three_offsets Tiles None None None = refl
three_offsets Tiles None None (Some j) = refl
three_offsets Tiles None (Some b) None = refl
three_offsets Tiles None (Some b) (Some j) = refl
three_offsets Tiles (Some a) None None = refl
three_offsets Tiles (Some a) None (Some j) = refl
three_offsets Tiles (Some a) (Some b) None = refl
three_offsets Tiles (Some a) (Some b) (Some j) = refl
three_offsets Jpeg None None None = refl
three_offsets Jpeg None None (Some j) = refl
three_offsets Jpeg None (Some b) None = refl
three_offsets Jpeg None (Some b) (Some j) = refl
three_offsets Jpeg (Some a) None None = refl
three_offsets Jpeg (Some a) None (Some j) = refl
three_offsets Jpeg (Some a) (Some b) None = refl
three_offsets Jpeg (Some a) (Some b) (Some j) = refl

three_lengths : (kind : BlockKind) (a b j : Option (List (List ℕ)))
    → in_tag_order (filter (λ slot. slot.tag == lengths_tag kind) (set_slots Strips a) ++ filter (λ slot. slot.tag == lengths_tag kind) (set_slots Tiles b)
    ++ filter (λ slot. slot.tag == lengths_tag kind) (set_slots Jpeg j))
    ≡ lengths_slots kind (elim kind [ Strips ↦ a | Tiles ↦ b | Jpeg ↦ j ])
three_lengths Strips None None None = refl
three_lengths Strips None None (Some j) = refl
three_lengths Strips None (Some b) None = refl
three_lengths Strips None (Some b) (Some j) = refl
three_lengths Strips (Some a) None None = refl
three_lengths Strips (Some a) None (Some j) = refl
three_lengths Strips (Some a) (Some b) None = refl
three_lengths Strips (Some a) (Some b) (Some j) = refl
three_lengths Tiles None None None = refl
three_lengths Tiles None None (Some j) = refl
three_lengths Tiles None (Some b) None = refl
three_lengths Tiles None (Some b) (Some j) = refl
three_lengths Tiles (Some a) None None = refl
three_lengths Tiles (Some a) None (Some j) = refl
three_lengths Tiles (Some a) (Some b) None = refl
three_lengths Tiles (Some a) (Some b) (Some j) = refl
three_lengths Jpeg None None None = refl
three_lengths Jpeg None None (Some j) = refl
three_lengths Jpeg None (Some b) None = refl
three_lengths Jpeg None (Some b) (Some j) = refl
three_lengths Jpeg (Some a) None None = refl
three_lengths Jpeg (Some a) None (Some j) = refl
three_lengths Jpeg (Some a) (Some b) None = refl
three_lengths Jpeg (Some a) (Some b) (Some j) = refl

in_cases : (group : Group) (kind : BlockKind)
    → (let r : Option (List (List ℕ)) = elim kind [ Strips ↦ group.strips | Tiles ↦ group.tiles | Jpeg ↦ single group.jpeg ] in r) ≡ blocks_in group kind
in_cases group Strips = refl
in_cases group Tiles = refl
in_cases group Jpeg = refl

-- what the blocks of a group are named by
pub offsets_under : (groups : List Group) (m : ℕ) (kind : BlockKind) → m < length groups → AllByRecursion (IsEntry Tiff) (group_at groups m).tiff
    → fields_under (offsets_tag kind) m (flat groups)
    ≡ map (top_field (draft_of (group_at groups m)) (start_at m 8 groups) m) (offsets_slots kind (blocks_in (group_at groups m) kind))
unfolding flat
offsets_under groups m kind h entries =
    let zero_add : 0 + m ≡ m = omega arith in
    let group : Group = group_at groups m in
    let named = flat_named groups (offsets_tag kind) 0 m 8 h (named_slots group (offsets_tag kind) (own_offsets kind) entries) in
    (rw zero_add at named) ∙ ap (map (top_field (draft_of group) (start_at m 8 groups) m)) (own_slots group (offsets_tag kind) (own_offsets kind) entries ∙ three_offsets kind group.strips group.tiles (single group.jpeg) ∙ ap (offsets_slots kind) (in_cases group kind))

-- under the tag of their lengths a group has one field of its blocks, or none if none are set
pub lengths_under : (groups : List Group) (m : ℕ) (kind : BlockKind) → m < length groups → AllByRecursion (IsEntry Tiff) (group_at groups m).tiff
    → fields_under (lengths_tag kind) m (flat groups)
    ≡ map (top_field (draft_of (group_at groups m)) (start_at m 8 groups) m) (lengths_slots kind (blocks_in (group_at groups m) kind))
unfolding flat
lengths_under groups m kind h entries =
    let zero_add : 0 + m ≡ m = omega arith in
    let group : Group = group_at groups m in
    let named = flat_named groups (lengths_tag kind) 0 m 8 h (named_slots group (lengths_tag kind) (own_lengths kind) entries) in
    (rw zero_add at named) ∙ ap (map (top_field (draft_of group) (start_at m 8 groups) m)) (own_slots group (lengths_tag kind) (own_lengths kind) entries ∙ three_lengths kind group.strips group.tiles (single group.jpeg) ∙ ap (lengths_slots kind) (in_cases group kind))
