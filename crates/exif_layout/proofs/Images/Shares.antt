-- What pushing the flat fields of a group adds to each of its directories: the pushed entries, in tag order.
use Rattle.std.proofs.Common.{◌≡◌, ℕ, suc, List, [], ◌∷◌, ◌++◌, length, map, refl, sym, ap, ◌∙◌, arith, Bool, true, false, cond, Option, Some, None}
use Rattle.std.specs.Prelude.{if◌then◌else◌, not}
use Rattle.std.specs.List.{AllByRecursion, flat_map, filter}
use Rattle.std.proofs.lemmas.List.{append-nil, append_assoc, length-append}
use Rattle.exif_types.specs.Lookup.{context_eq}
use Rattle.exif_table.specs.declared.context.Context.{Context}
use Rattle.exif_table.specs.declared.context.Context.TheVariants.{Tiff, Exif, Gps, Interop}
use Rattle.exif_layout.specs.Groups.{Group, Entry, is_ignored, pushed_in, blocks_in, offsets_tag, lengths_tag}
use Rattle.exif_layout.specs.Slots.{draft_of, Slot, known, in_tag_order, set_slots, block_slots, pointer_slots, slots_of, tiff_slots, exif_slots, gps_slots, interop_slots}
use Rattle.exif_layout.specs.declared.block_kind.BlockKind.{BlockKind}
use Rattle.exif_layout.specs.declared.block_kind.BlockKind.TheVariants.{Strips, Tiles, Jpeg}
use Rattle.exif_tiff.proofs.Members.{all_append}
use Rattle.exif_layout.proofs.Images.Slots.{all_known, all_slots, all_tiff, all_exif, all_gps, all_interop, pointer_to}
use Rattle.exif_layout.proofs.Images.Sorting.{length-sorted}
use Rattle.exif_layout.proofs.Moved.{moved_twice}
use Rattle.exif_layout.proofs.Images.Flat.{IsSettled, is_pushed, share, sum_of, sum_is, flat_nothing, flat_sorted, flat_filter}

-- what holds of everything holds of all members of a list
pub always : {X : Type 0} (P : X → Type 0) → ((x : X) → P x) → (l : List X) → AllByRecursion P l
always P h [] = tt
always P h (x ∷ l) = (h x, always P h l)

-- the tags of blocks are the writer's own
pub offsets_ignored : (kind : BlockKind) → is_ignored Tiff (offsets_tag kind) ≡ true
offsets_ignored Strips = refl
offsets_ignored Tiles = refl
offsets_ignored Jpeg = refl

-- and so is the tag of the lengths of blocks, of each kind
pub lengths_ignored : (kind : BlockKind) → is_ignored Tiff (lengths_tag kind) ≡ true
lengths_ignored Strips = refl
lengths_ignored Tiles = refl
lengths_ignored Jpeg = refl

settled_blocks : (kind : BlockKind) (texts : Option (List (List ℕ))) → AllByRecursion (IsSettled Tiff) (set_slots kind texts)
settled_blocks kind None = tt
settled_blocks kind (Some texts) = (offsets_ignored kind, (lengths_ignored kind, tt))

-- each slot of a group has no old offset, or has a tag of the writer's own
pub settled : (group : Group) (context : Context) → AllByRecursion (IsSettled context) (slots_of group context)
settled group =
    all_slots IsSettled group
    (λ context. always (λ entry. IsSettled context (known entry)) (λ entry. moved_twice 0 0 entry.value) (pushed_in group context))
    (λ kind. settled_blocks kind (blocks_in group kind))
    (λ some. refl) (λ some. refl) (λ some. refl)

own_known : (here : Context) (ignored : Bool) (slot : Slot)
    → (if ignored then [] else (if context_eq here here then slot ∷ [] else [])) ≡ cond (not ignored) (slot ∷ []) []
own_known Tiff true slot = refl
own_known Tiff false slot = refl
own_known Exif true slot = refl
own_known Exif false slot = refl
own_known Gps true slot = refl
own_known Gps false slot = refl
own_known Interop true slot = refl
own_known Interop false slot = refl

other_known : (here context : Context) (ignored : Bool) (slot : Slot) → context_eq here context ≡ false
    → (let r : List Slot = if ignored then [] else (if context_eq here context then slot ∷ [] else []) in r) ≡ []
other_known here context true slot h = refl
other_known here context false slot h = rw h refl

-- a directory's share of its own entries is what was pushed
OwnShare : Context → (Context → List Slot) → Slot → Type 0
OwnShare here inner slot = share here here inner slot ≡ cond (is_pushed here slot) (slot ∷ []) []

own_entries : (here : Context) (inner : Context → List Slot) (entries : List Entry) → AllByRecursion (λ entry. OwnShare here inner (known entry)) entries
unfolding OwnShare
own_entries here inner = always (λ entry. OwnShare here inner (known entry)) (λ entry. own_known here (is_ignored here entry.tag) (known entry))

own_blocks : (inner : Context → List Slot) (kind : BlockKind) (texts : Option (List (List ℕ))) → AllByRecursion (OwnShare Tiff inner) (set_slots kind texts)
unfolding OwnShare
own_blocks inner kind None = tt
own_blocks inner kind (Some texts) = (rw (offsets_ignored kind) refl, (rw (lengths_ignored kind) refl, tt))

own_tiff : (group : Group) (inner : Context → List Slot) → inner Exif ≡ [] → inner Gps ≡ []
    → flat_map (share Tiff Tiff inner) (tiff_slots group) ≡ filter (is_pushed Tiff) (tiff_slots group)
unfolding OwnShare
own_tiff group inner e g =
    flat_filter (share Tiff Tiff inner) (is_pushed Tiff) (tiff_slots group)
    (all_tiff (OwnShare Tiff inner) group (own_entries Tiff inner group.tiff)
    (λ kind. own_blocks inner kind (blocks_in group kind))
    (λ some. e) (λ some. g))

own_exif : (group : Group) (inner : Context → List Slot) → inner Interop ≡ [] → flat_map (share Exif Exif inner) (exif_slots group) ≡ filter (is_pushed Exif) (exif_slots group)
unfolding OwnShare
own_exif group inner i =
    flat_filter (share Exif Exif inner) (is_pushed Exif) (exif_slots group)
    (all_exif (OwnShare Exif inner) group (own_entries Exif inner group.exif) (λ some. i))

own_gps : (group : Group) (inner : Context → List Slot) → flat_map (share Gps Gps inner) (gps_slots group) ≡ filter (is_pushed Gps) (gps_slots group)
unfolding OwnShare
own_gps group inner = flat_filter (share Gps Gps inner) (is_pushed Gps) (gps_slots group) (all_gps (OwnShare Gps inner) group (own_entries Gps inner group.gps))

own_interop : (group : Group) (inner : Context → List Slot) → flat_map (share Interop Interop inner) (interop_slots group) ≡ filter (is_pushed Interop) (interop_slots group)
unfolding OwnShare
own_interop group inner =
    flat_filter (share Interop Interop inner) (is_pushed Interop) (interop_slots group) (all_interop (OwnShare Interop inner) group (own_entries Interop inner group.interop))

-- what is where a list has a member
pick : {X Y : Type 0} → List X → List Y → List Y
pick [] r = []
pick (x ∷ l) r = r

other_entries : (here context : Context) (inner : Context → List Slot) → context_eq here context ≡ false → (entries : List Entry)
    → AllByRecursion (λ entry. share context here inner (known entry) ≡ []) entries
other_entries here context inner h =
    always (λ entry. share context here inner (known entry) ≡ []) (λ entry. other_known here context (is_ignored here entry.tag) (known entry) h)

other_blocks : (context : Context) (inner : Context → List Slot) (kind : BlockKind) (texts : Option (List (List ℕ)))
    → AllByRecursion (λ slot. share context Tiff inner slot ≡ []) (set_slots kind texts)
other_blocks context inner kind None = tt
other_blocks context inner kind (Some texts) = (refl, (refl, tt))

two_pointers : (f : Slot → List Slot) (e g : List Slot)
    → flat_map f (in_tag_order (pointer_slots 0x8769 Exif e ++ pointer_slots 0x8825 Gps g)) ≡ pick e (f (pointer_to 0x8769 Exif)) ++ pick g (f (pointer_to 0x8825 Gps))
unfolding pick
two_pointers f [] [] = refl
two_pointers f [] (y ∷ g) = append-nil _
two_pointers f (x ∷ e) [] = refl
two_pointers f (x ∷ e) (y ∷ g) = ap (λ r. f (pointer_to 0x8769 Exif) ++ r) (append-nil _)

one_pointer : (f : Slot → List Slot) (l : List Slot) → flat_map f (in_tag_order (pointer_slots 0xa005 Interop l)) ≡ pick l (f (pointer_to 0xa005 Interop))
unfolding pick
one_pointer f [] = refl
one_pointer f (x ∷ l) = append-nil _

other_tiff : (group : Group) (context : Context) (inner : Context → List Slot) → context_eq Tiff context ≡ false
    → flat_map (share context Tiff inner) (tiff_slots group) ≡ pick (exif_slots group) (inner Exif) ++ pick (gps_slots group) (inner Gps)
unfolding tiff_slots
other_tiff group context inner h =
    let P : Slot → Type 0 = λ slot. share context Tiff inner slot ≡ [] in
    let front : List Slot = map known group.tiff ++ block_slots group Strips ++ block_slots group Tiles ++ block_slots group Jpeg in
    let quiet : AllByRecursion P front =
    all_append P _ _ (all_append P _ _ (all_append P _ _ (all_known P group.tiff (other_entries Tiff context inner h group.tiff))
    (other_blocks context inner Strips (blocks_in group Strips))) (other_blocks context inner Tiles (blocks_in group Tiles))) (other_blocks context inner Jpeg (blocks_in group Jpeg)) in
    ap (λ l. flat_map (share context Tiff inner) (in_tag_order l)) (append_assoc front (pointer_slots 0x8769 Exif (exif_slots group)) (pointer_slots 0x8825 Gps (gps_slots group)))
    ∙ flat_sorted (share context Tiff inner) front (pointer_slots 0x8769 Exif (exif_slots group) ++ pointer_slots 0x8825 Gps (gps_slots group)) quiet
    ∙ two_pointers (share context Tiff inner) (exif_slots group) (gps_slots group)

other_exif : (group : Group) (context : Context) (inner : Context → List Slot) → context_eq Exif context ≡ false
    → flat_map (share context Exif inner) (exif_slots group) ≡ pick (interop_slots group) (inner Interop)
unfolding exif_slots
other_exif group context inner h =
    let P : Slot → Type 0 = λ slot. share context Exif inner slot ≡ [] in
    flat_sorted (share context Exif inner) (map known group.exif) (pointer_slots 0xa005 Interop (interop_slots group)) (all_known P group.exif (other_entries Exif context inner h group.exif))
    ∙ one_pointer (share context Exif inner) (interop_slots group)

other_gps : (group : Group) (context : Context) (inner : Context → List Slot) → context_eq Gps context ≡ false → flat_map (share context Gps inner) (gps_slots group) ≡ []
other_gps group context inner h =
    flat_nothing (share context Gps inner) (gps_slots group) (all_gps (λ slot. share context Gps inner slot ≡ []) group (other_entries Gps context inner h group.gps))

other_interop : (group : Group) (context : Context) (inner : Context → List Slot) → context_eq Interop context ≡ false → flat_map (share context Interop inner) (interop_slots group) ≡ []
other_interop group context inner h =
    flat_nothing (share context Interop inner) (interop_slots group) (all_interop (λ slot. share context Interop inner slot ≡ []) group (other_entries Interop context inner h group.interop))

pick_nothing : {X Y : Type 0} (l : List X) (r : List Y) → r ≡ [] → pick l r ≡ []
unfolding pick
pick_nothing [] r h = refl
pick_nothing (x ∷ l) r h = h

pick_filter : (test : Slot → Bool) (l : List Slot) → pick l (filter test l) ≡ filter test l
unfolding pick
pick_filter test [] = refl
pick_filter test (x ∷ l) = refl

no_pointer : (tag : ℕ) (child : Context) (l : List Slot) → length (pointer_slots tag child l) ≡ 0 → l ≡ []
no_pointer tag child [] h = refl
no_pointer tag child (x ∷ l) h = absurd (omega arith)

-- where there is no Exif entry there is no Interop entry
no_interop : (group : Group) → exif_slots group ≡ [] → interop_slots group ≡ []
unfolding exif_slots
no_interop group h =
    let pointers : List Slot = pointer_slots 0xa005 Interop (interop_slots group) in
    let a = length-sorted (map known group.exif ++ pointers) in
    let b = length-append (map known group.exif) pointers in
    let c : length (in_tag_order (map known group.exif ++ pointers)) ≡ 0 = ap length h in
    no_pointer 0xa005 Interop (interop_slots group) (omega arith)

pick_far : (test : Slot → Bool) (e i : List Slot) → (e ≡ [] → i ≡ []) → pick e (pick i (filter test i)) ≡ filter test i
unfolding pick
pick_far test [] i h = sym (ap (filter test) (h refl))
pick_far test (x ∷ e) i h = pick_filter test i

module _ (group : Group) (start ifd : ℕ) where
  total : ℕ → Context → Context → List Slot
  total depth context here = sum_of (draft_of group) start ifd (suc depth) context here

  total_is : (depth : ℕ) (context here : Context) → total depth context here ≡ flat_map (share context here (sum_of (draft_of group) start ifd depth context)) (slots_of group here)
  unfolding total
  total_is depth context here = sum_is (draft_of group) start ifd depth context here (settled group here)

  total_interop : (depth : ℕ) (context : Context) → context_eq Interop context ≡ false → total depth context Interop ≡ []
  total_interop depth context h = total_is depth context Interop ∙ other_interop group context _ h

  total_gps : (depth : ℕ) (context : Context) → context_eq Gps context ≡ false → total depth context Gps ≡ []
  total_gps depth context h = total_is depth context Gps ∙ other_gps group context _ h

  total_exif : (depth : ℕ) (context : Context) → context_eq Exif context ≡ false → context_eq Interop context ≡ false → total (suc depth) context Exif ≡ []
  unfolding total
  total_exif depth context h k =
      total_is (suc depth) context Exif ∙ other_exif group context _ h ∙ pick_nothing (interop_slots group) _ (total_interop depth context k)

  -- what the fields of a group add to each of its directories
  pub top_adds : (context : Context) → sum_of (draft_of group) start ifd 3 context Tiff ≡ filter (is_pushed context) (slots_of group context)
  unfolding total
  top_adds Tiff = total_is 2 Tiff Tiff ∙ own_tiff group _ (total_exif 0 Tiff refl refl) (total_gps 1 Tiff refl)
  top_adds Exif =
      total_is 2 Exif Tiff ∙ other_tiff group Exif _ refl
      ∙ (λ i. pick (exif_slots group) ((total_is 1 Exif Exif ∙ own_exif group _ (total_interop 0 Exif refl)) i)
      ++ pick_nothing (gps_slots group) _ (total_gps 1 Exif refl) i)
      ∙ append-nil _ ∙ pick_filter (is_pushed Exif) (exif_slots group)
  top_adds Gps =
      total_is 2 Gps Tiff ∙ other_tiff group Gps _ refl
      ∙ (λ i. pick_nothing (exif_slots group) _ (total_exif 0 Gps refl refl) i
      ++ pick (gps_slots group) ((total_is 1 Gps Gps ∙ own_gps group _) i))
      ∙ pick_filter (is_pushed Gps) (gps_slots group)
  top_adds Interop =
      total_is 2 Interop Tiff ∙ other_tiff group Interop _ refl
      ∙ (λ i. pick (exif_slots group) ((total_is 1 Interop Exif ∙ other_exif group Interop _ refl
      ∙ ap (pick (interop_slots group)) (total_is 0 Interop Interop ∙ own_interop group _)) i)
      ++ pick_nothing (gps_slots group) _ (total_gps 1 Interop refl) i)
      ∙ append-nil _ ∙ pick_far (is_pushed Interop) (exif_slots group) (interop_slots group) (no_interop group)
