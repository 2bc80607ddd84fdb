-- No child directory is named by two entries of a directory.
use Rattle.std.proofs.Common.{◌≡◌, ℕ, refl, subst, append_assoc, List, [], ◌∷◌, ◌++◌, true, false, map, Option, Some, None, sym, ◌∙◌}
use Rattle.std.specs.Prelude.{if◌then◌else◌, nat_le}
use Rattle.std.specs.List.{AllByRecursion}
use Rattle.exif_table.specs.declared.context.Context.{Context}
use Rattle.exif_table.specs.declared.context.Context.TheVariants.{Tiff, Exif, Gps, Interop}
use Rattle.exif_layout.specs.declared.block_kind.BlockKind.{BlockKind}
use Rattle.exif_layout.specs.declared.block_kind.BlockKind.TheVariants.{Strips, Tiles, Jpeg}
use Rattle.exif_layout.specs.Groups.{Group, Entry, blocks_in}
use Rattle.exif_layout.specs.Slots.{Content, Known, OffsetsOf, LengthsOf, OffsetOf, Slot, block_slots, exif_slots, gps_slots, in_tag_order, inserted, interop_slots, known, pointer_slots, set_slots, slots_of, tiff_slots}
use Rattle.exif_layout.proofs.Images.Slots.{all_in_tag_order, all_inserted}
use Rattle.exif_tiff.proofs.Members.{all_append}

-- the child that an entry names
abbrev pub child_named : Content → Option Context
child_named (Known value) = None
child_named (OffsetsOf kind lengths) = None
child_named (LengthsOf kind lengths) = None
child_named (OffsetOf child) = Some child

-- two entries that do not name one child
abbrev pub Differ : Slot → Slot → Type 0
Differ s t =
    (child : Context) → child_named s.content ≡ Some child → child_named t.content ≡ Some child → ⊥

-- no child directory is named by two of the entries
abbrev pub NamesOnce : List Slot → Type 0
NamesOnce [] = Unit {0}
NamesOnce (s ∷ ts) = AllByRecursion (Differ s) ts × NamesOnce ts

none_some : (child : Context) → ◌≡◌ {A = Option Context} None (Some child) → ⊥
none_some child h = cc

-- an entry that names none differs from all
differs : (s t : Slot) → child_named s.content ≡ None → Differ s t
differs s t none child h k = none_some child (sym none ∙ h)

differs_all : (s : Slot) → child_named s.content ≡ None → (ts : List Slot) → AllByRecursion (Differ s) ts
differs_all s none [] = tt
differs_all s none (t ∷ ts) = (differs s t none, differs_all s none ts)

turned : (s : Slot) (ts : List Slot) → AllByRecursion (Differ s) ts → AllByRecursion (λ t. Differ t s) ts
turned s [] h = tt
turned s (t ∷ ts) h = (λ child a b. h.0 child b a, turned s ts h.1)

-- ---- entries in tag order

once_inserted : (s : Slot) (ts : List Slot) → AllByRecursion (Differ s) ts → NamesOnce ts → NamesOnce (inserted s ts)
once_inserted s [] h k = (tt, tt)
once_inserted s (t ∷ ts) h k =
    elim (nat_le s.tag t.tag) as (λ b. NamesOnce (if b then s ∷ t ∷ ts else t ∷ inserted s ts)) [
      | true ↦ (h, k)
      | false ↦ (all_inserted (Differ t) s ts (λ child a b. h.0 child b a) k.0, once_inserted s ts h.1 k.1)
    ]

once_sorted : (ts : List Slot) → NamesOnce ts → NamesOnce (in_tag_order ts)
once_sorted [] h = tt
once_sorted (s ∷ ts) h = once_inserted s (in_tag_order ts) (all_in_tag_order (Differ s) ts h.0) (once_sorted ts h.1)

-- ---- entries as they come

-- entries that name none
AllNone : List Slot → Type 0
AllNone ts = AllByRecursion (λ t. child_named t.content ≡ None) ts

none_front : (ss ts : List Slot) → AllNone ss → NamesOnce ts → NamesOnce (ss ++ ts)
unfolding AllNone
none_front [] ts h k = k
none_front (s ∷ ss) ts h k = (differs_all s h.0 (ss ++ ts), none_front ss ts h.1 k)

none_known : (entries : List Entry) → AllNone (map known entries)
unfolding AllNone
none_known [] = tt
none_known (entry ∷ entries) = (refl, none_known entries)

none_blocks : (kind : BlockKind) (texts : Option (List (List ℕ))) → AllNone (set_slots kind texts)
unfolding AllNone
none_blocks kind None = tt
none_blocks kind (Some texts) = (refl, (refl, tt))

none_both : (ss ts : List Slot) → AllNone ss → AllNone ts → AllNone (ss ++ ts)
unfolding AllNone
none_both ss ts h k = all_append (λ t. child_named t.content ≡ None) ss ts h k

once_pointer : (tag : ℕ) (child : Context) (xs : List Slot) → NamesOnce (pointer_slots tag child xs)
once_pointer tag child [] = tt
once_pointer tag child (x ∷ xs) = (tt, tt)

exif_is_gps : ◌≡◌ {A = Option Context} (Some Exif) (Some Gps) → ⊥
exif_is_gps h = cc

once_pointers : (xs ys : List Slot) → NamesOnce (pointer_slots 0x8769 Exif xs ++ pointer_slots 0x8825 Gps ys)
once_pointers [] ys = once_pointer 0x8825 Gps ys
once_pointers (x ∷ xs) [] = (tt, tt)
once_pointers (x ∷ xs) (y ∷ ys) = ((λ child a b. exif_is_gps (a ∙ sym b), tt), (tt, tt))

once_tiff : (group : Group) → NamesOnce (tiff_slots group)
unfolding tiff_slots
once_tiff group =
    let fields : List Slot = map known group.tiff in
    let strips : List Slot = block_slots group Strips in
    let tiles : List Slot = block_slots group Tiles in
    let jpeg : List Slot = block_slots group Jpeg in
    let front : List Slot = ((fields ++ strips) ++ tiles) ++ jpeg in
    let exif : List Slot = pointer_slots 0x8769 Exif (exif_slots group) in
    let gps : List Slot = pointer_slots 0x8825 Gps (gps_slots group) in
    let none : AllNone front =
    none_both ((fields ++ strips) ++ tiles) jpeg
    (none_both (fields ++ strips) tiles (none_both fields strips (none_known group.tiff) (none_blocks Strips (blocks_in group Strips)))
    (none_blocks Tiles (blocks_in group Tiles)))
    (none_blocks Jpeg (blocks_in group Jpeg)) in
    once_sorted ((front ++ exif) ++ gps)
    (subst NamesOnce (sym (append_assoc front exif gps))
    (none_front front (exif ++ gps) none (once_pointers (exif_slots group) (gps_slots group))))

once_exif : (group : Group) → NamesOnce (exif_slots group)
unfolding exif_slots
once_exif group =
    once_sorted (map known group.exif ++ pointer_slots 0xa005 Interop (interop_slots group))
    (none_front (map known group.exif) (pointer_slots 0xa005 Interop (interop_slots group)) (none_known group.exif)
    (once_pointer 0xa005 Interop (interop_slots group)))

once_alone : (entries : List Entry) → NamesOnce (map known entries)
once_alone [] = tt
once_alone (entry ∷ entries) = (differs_all (known entry) refl (map known entries), once_alone entries)

once_gps : (group : Group) → NamesOnce (gps_slots group)
unfolding gps_slots
once_gps group = once_sorted _ (once_alone group.gps)

once_interop : (group : Group) → NamesOnce (interop_slots group)
unfolding interop_slots
once_interop group = once_sorted _ (once_alone group.interop)

-- in no directory of a group do two entries name the same child
pub names_once : (group : Group) (context : Context) → NamesOnce (slots_of group context)
names_once group Tiff = once_tiff group
names_once group Exif = once_exif group
names_once group Gps = once_gps group
names_once group Interop = once_interop group
