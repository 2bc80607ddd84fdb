-- What holds of each entry of groups holds of each field of their image.
use Rattle.std.proofs.Common.{◌≡◌, ℕ, zero, suc, ◌+◌, ◌<◌, List, [], ◌∷◌, length, map, refl, sym, subst, arith, Option, Some, None}
use Rattle.std.specs.Prelude.{if◌then◌else◌, nat_le, ⊤}
use Rattle.std.specs.List.{AllByRecursion, flat_map}
use Rattle.exif_types.specs.declared.value.Value.{Value}
use Rattle.exif_types.specs.declared.value.Value.TheVariants.{Long}
use Rattle.exif_table.specs.declared.context.Context.{Context}
use Rattle.exif_table.specs.declared.context.Context.TheVariants.{Tiff}
use Rattle.exif_types.specs.declared.field.Field.{Field}
use Rattle.exif_layout.specs.Groups.{Group, Entry, blocks_in, pushed_in, offsets_tag, lengths_tag}
use Rattle.exif_layout.specs.Encoding.{moved_to}
use Rattle.exif_layout.specs.Slots.{Draft, draft_of, Slot, Content, Known, OffsetsOf, LengthsOf, OffsetOf, known, set_slots, slots_of, content_len}
use Rattle.exif_layout.specs.declared.block_kind.BlockKind.{BlockKind}
use Rattle.exif_layout.specs.Offsets.{written, draft_end, even, after_value, value_of, directory_offset, values_offset}
use Rattle.exif_layout.specs.Flat.{field_of, entry_fields, directory_fields, flat_from, flat}
use Rattle.exif_tiff.proofs.Members.{all_append}
use Rattle.exif_layout.proofs.Images.Slots.{all_slots}
use Rattle.exif_layout.proofs.Images.Pushing.{group_at}
use Rattle.exif_layout.proofs.Moved.{moved_twice}

-- what holds of a slot's field, wherever its value and its blocks are
abbrev SlotHas : (Field → Type 0) → ℕ → Context → Slot → Type 0
SlotHas P ifd context slot =
    elim slot.content [
      | Known value ↦ (offset : ℕ) → P (field_of context slot.tag ifd (moved_to offset value))
      | OffsetsOf kind lengths ↦ (numbers : List ℕ) → P (field_of context slot.tag ifd (Long numbers))
      | LengthsOf kind lengths ↦ (numbers : List ℕ) → P (field_of context slot.tag ifd (Long numbers))
      | OffsetOf child ↦ ⊤
    ]

-- the same of a group: of each pushed entry, and of the two fields of blocks that are set
pub record GroupHas (P : Field → Type 0) (ifd : ℕ) (group : Group) : Type 0 where
  pub pushed : (context : Context) → AllByRecursion (λ entry. (offset : ℕ) → P (field_of context entry.tag ifd (moved_to offset entry.value))) (pushed_in group context)
  pub offsets : (kind : BlockKind) (texts : List (List ℕ)) → blocks_in group kind ≡ Some texts → (numbers : List ℕ) → P (field_of Tiff (offsets_tag kind) ifd (Long numbers))
  pub lengths : (kind : BlockKind) (texts : List (List ℕ)) → blocks_in group kind ≡ Some texts → (numbers : List ℕ) → P (field_of Tiff (lengths_tag kind) ifd (Long numbers))

module _ (P : Field → Type 0) (ifd : ℕ) where
  known_have : (context : Context) (entries : List Entry) → AllByRecursion (λ entry. (offset : ℕ) → P (field_of context entry.tag ifd (moved_to offset entry.value))) entries
      → AllByRecursion (λ entry. SlotHas P ifd context (known entry)) entries
  known_have context [] h = tt
  known_have context (entry ∷ entries) h = (
    λ offset. subst (λ (v : Value). P (field_of context entry.tag ifd v)) (sym (moved_twice offset 0 entry.value)) (h.0 offset),
    known_have context entries h.1,
  )

  blocks_have : (kind : BlockKind) (blocks : Option (List (List ℕ)))
      → ((texts : List (List ℕ)) → blocks ≡ Some texts → (numbers : List ℕ) → P (field_of Tiff (offsets_tag kind) ifd (Long numbers)))
      → ((texts : List (List ℕ)) → blocks ≡ Some texts → (numbers : List ℕ) → P (field_of Tiff (lengths_tag kind) ifd (Long numbers)))
      → AllByRecursion (SlotHas P ifd Tiff) (set_slots kind blocks)
  blocks_have kind None h k = tt
  blocks_have kind (Some texts) h k = (h texts refl, (k texts refl, tt))

  slots_have : (group : Group) → GroupHas P ifd group → (context : Context) → AllByRecursion (SlotHas P ifd context) (slots_of group context)
  slots_have group h =
      all_slots (SlotHas P ifd) group (λ context. known_have context (pushed_in group context) (h.pushed context))
      (λ kind. blocks_have kind (blocks_in group kind) (h.offsets kind) (h.lengths kind))
      (λ some. tt) (λ some. tt) (λ some. tt)

  module _ (draft : Draft) (start : ℕ) where
    content_has : (fields : Context → List Field) → ((child : Context) → AllByRecursion P (fields child)) → (here : Context) (tag offset : ℕ) (content : Content)
        → SlotHas P ifd here (record { tag = tag; content = content })
        → AllByRecursion P (entry_fields fields here ifd (record { tag = tag; content = content; value = value_of draft start content; offset = offset }))
    content_has fields h here tag offset (Known value) p = (p offset, tt)
    content_has fields h here tag offset (OffsetsOf kind lengths) p = (p _, tt)
    content_has fields h here tag offset (LengthsOf kind lengths) p = (p lengths, tt)
    content_has fields h here tag offset (OffsetOf child) p = h child

    entries_have : (fields : Context → List Field) → ((child : Context) → AllByRecursion P (fields child)) → (here : Context) (at values : ℕ) (slots : List Slot)
        → AllByRecursion (SlotHas P ifd here) slots → AllByRecursion P (flat_map (entry_fields fields here ifd) (written draft start at values slots))
    entries_have fields h here at values [] p = tt
    entries_have fields h here at values (slot ∷ slots) p =
        all_append P _ _
        (content_has fields h here slot.tag (if nat_le (content_len slot.content) 4 then at + 8 else even values) slot.content p.0)
        (entries_have fields h here (at + 12) (after_value values (content_len slot.content)) slots p.1)

    fields_have : ((context : Context) → AllByRecursion (SlotHas P ifd context) (draft.slots context)) → (depth : ℕ) (here : Context) → AllByRecursion P (directory_fields draft start ifd depth here)
    fields_have h zero here = tt
    fields_have h (suc depth) here =
        entries_have (directory_fields draft start ifd depth) (fields_have h depth) here (directory_offset draft start here + 2) (values_offset draft start here) (draft.slots here) (h here)

from_has : (P : Field → Type 0) (groups : List Group) (ifd start : ℕ) → ((m : ℕ) → m < length groups → GroupHas P (ifd + m) (group_at groups m))
    → AllByRecursion P (flat_from ifd start (map draft_of groups))
from_has P [] ifd start h = tt
from_has P (group ∷ groups) ifd start h =
    let here : ifd + 0 ≡ ifd = omega arith in
    let more : (m : ℕ) → ifd + suc m ≡ suc ifd + m = λ m. omega arith in
    let first : GroupHas P ifd group = rw here at (h 0 (omega arith)) in
    all_append P _ _ (fields_have P ifd (draft_of group) start (slots_have P ifd group first) 3 Tiff)
    (from_has P groups (suc ifd) (draft_end (draft_of group) start) (λ m k. subst (λ (n : ℕ). GroupHas P n (group_at groups m)) (more m) (h (suc m) (omega arith))))

-- what each group has, each field of the image has
pub flat_has : (P : Field → Type 0) (groups : List Group) → ((m : ℕ) → m < length groups → GroupHas P m (group_at groups m)) → AllByRecursion P (flat groups)
unfolding flat
flat_has P groups h =
    from_has P groups 0 8 (λ m k. let e : m ≡ 0 + m = omega arith in subst (λ (n : ℕ). GroupHas P n (group_at groups m)) e (h m k))
