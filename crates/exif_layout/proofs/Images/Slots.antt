-- What holds of a group's entries before they are sorted holds of them in tag order, and what a group that may be written has.
use Rattle.std.proofs.Common.{ℕ, ◌<◌, List, [], ◌∷◌, length, arith, true, false, map}
use Rattle.std.specs.Prelude.{if◌then◌else◌, nat_le}
use Rattle.std.specs.List.{AllByRecursion}
use Rattle.exif_table.specs.declared.context.Context.{Context}
use Rattle.exif_table.specs.declared.context.Context.TheVariants.{Tiff, Exif, Gps, Interop}
use Rattle.exif_layout.specs.Groups.{Group, Entry, pushed_in}
use Rattle.exif_layout.specs.declared.block_kind.BlockKind.{BlockKind}
use Rattle.exif_layout.specs.declared.block_kind.BlockKind.TheVariants.{Strips, Tiles, Jpeg}
use Rattle.exif_layout.specs.Slots.{Slot, OffsetOf, known, inserted, in_tag_order, block_slots, pointer_slots, slots_of, tiff_slots, exif_slots, gps_slots, interop_slots}
use Rattle.exif_tiff.proofs.Members.{all_append}

-- what holds of a slot and of all others holds of all with it in its position
pub all_inserted : (P : Slot → Type 0) (slot : Slot) (slots : List Slot) → P slot → AllByRecursion P slots → AllByRecursion P (inserted slot slots)
all_inserted P slot [] p h = (p, tt)
all_inserted P slot (next ∷ slots) p h =
    elim (nat_le slot.tag next.tag) as (λ b. AllByRecursion P (if b then slot ∷ next ∷ slots else next ∷ inserted slot slots)) [
      | true ↦ (p, h)
      | false ↦ (h.0, all_inserted P slot slots p h.1)
    ]

-- what holds of all slots holds of them sorted by tag
pub all_in_tag_order : (P : Slot → Type 0) (slots : List Slot) → AllByRecursion P slots → AllByRecursion P (in_tag_order slots)
all_in_tag_order P [] h = tt
all_in_tag_order P (slot ∷ slots) h = all_inserted P slot (in_tag_order slots) h.0 (all_in_tag_order P slots h.1)

-- what holds of each pushed entry as a slot holds of all their slots
pub all_known : (P : Slot → Type 0) (entries : List Entry) → AllByRecursion (λ entry. P (known entry)) entries → AllByRecursion P (map known entries)
all_known P [] h = tt
all_known P (entry ∷ entries) h = (h.0, all_known P entries h.1)

-- what holds of the pointer to a child that has entries holds of the slots that name the child
pub all_pointer : (P : Slot → Type 0) (tag : ℕ) (child : Context) (slots : List Slot) → (0 < length slots → P (record { tag = tag; content = OffsetOf child }))
    → AllByRecursion P (pointer_slots tag child slots)
all_pointer P tag child [] h = tt
all_pointer P tag child (slot ∷ slots) h = (h (omega arith), tt)

-- the pointer to a child
abbrev pub pointer_to : ℕ → Context → Slot
pointer_to tag child = record { tag = tag; content = OffsetOf child }

-- what holds of the pushed entries, blocks and pointers of a Tiff directory holds of its slots
pub all_tiff : (P : Slot → Type 0) (group : Group) → AllByRecursion (λ entry. P (known entry)) group.tiff
    → ((kind : BlockKind) → AllByRecursion P (block_slots group kind))
    → (0 < length (exif_slots group) → P (pointer_to 0x8769 Exif)) → (0 < length (gps_slots group) → P (pointer_to 0x8825 Gps))
    → AllByRecursion P (tiff_slots group)
unfolding tiff_slots
all_tiff P group pushed blocks exif gps =
    all_in_tag_order P _
    (all_append P _ _ (all_append P _ _ (all_append P _ _ (all_append P _ _ (all_append P _ _
    (all_known P group.tiff pushed) (blocks Strips)) (blocks Tiles)) (blocks Jpeg))
    (all_pointer P 0x8769 Exif (exif_slots group) exif)) (all_pointer P 0x8825 Gps (gps_slots group) gps))

-- the same in an Exif directory, which has no blocks and only the pointer to Interop
pub all_exif : (P : Slot → Type 0) (group : Group) → AllByRecursion (λ entry. P (known entry)) group.exif
    → (0 < length (interop_slots group) → P (pointer_to 0xa005 Interop)) → AllByRecursion P (exif_slots group)
unfolding exif_slots
all_exif P group pushed interop = all_in_tag_order P _ (all_append P _ _ (all_known P group.exif pushed) (all_pointer P 0xa005 Interop (interop_slots group) interop))

-- in a GPS directory it is enough that it holds of the pushed entries
pub all_gps : (P : Slot → Type 0) (group : Group) → AllByRecursion (λ entry. P (known entry)) group.gps → AllByRecursion P (gps_slots group)
unfolding gps_slots
all_gps P group pushed = all_in_tag_order P _ (all_known P group.gps pushed)

-- and so in an Interop directory
pub all_interop : (P : Slot → Type 0) (group : Group) → AllByRecursion (λ entry. P (known entry)) group.interop → AllByRecursion P (interop_slots group)
unfolding interop_slots
all_interop P group pushed = all_in_tag_order P _ (all_known P group.interop pushed)

-- the same in each directory of a group, where what holds may depend on the context
pub all_slots : (P : Context → Slot → Type 0) (group : Group)
    → ((context : Context) → AllByRecursion (λ entry. P context (known entry)) (pushed_in group context))
    → ((kind : BlockKind) → AllByRecursion (P Tiff) (block_slots group kind))
    → (0 < length (exif_slots group) → P Tiff (pointer_to 0x8769 Exif))
    → (0 < length (gps_slots group) → P Tiff (pointer_to 0x8825 Gps))
    → (0 < length (interop_slots group) → P Exif (pointer_to 0xa005 Interop))
    → (context : Context) → AllByRecursion (P context) (slots_of group context)
all_slots P group pushed blocks exif gps interop Tiff = all_tiff (P Tiff) group (pushed Tiff) blocks exif gps
all_slots P group pushed blocks exif gps interop Exif = all_exif (P Exif) group (pushed Exif) interop
all_slots P group pushed blocks exif gps interop Gps = all_gps (P Gps) group (pushed Gps)
all_slots P group pushed blocks exif gps interop Interop = all_interop (P Interop) group (pushed Interop)
