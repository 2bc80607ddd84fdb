-- What pushing fields and setting blocks makes of groups, directory by directory.
use Rattle.std.proofs.Common.{◌≡◌, ℕ, zero, suc, ◌+◌, ◌<◌, ◌≢◌, List, [], ◌∷◌, ◌++◌, length, get_or, map, max, refl, sym, ap, ◌∙◌, arith, Bool, true, false, Option, Some, None}
use Rattle.std.specs.Prelude.{if◌then◌else◌, ◌==◌}
use Rattle.std.specs.List.{flat_map}
use Rattle.std.proofs.lemmas.Bool.{eqb-true, eqb-false}
use Rattle.std.proofs.lemmas.List.{append-nil, append_assoc, map-append}
use Rattle.exif_types.specs.Lookup.{context_eq}
use Rattle.exif_table.specs.declared.context.Context.{Context}
use Rattle.exif_table.specs.declared.context.Context.TheVariants.{Tiff, Exif, Gps, Interop}
use Rattle.exif_types.specs.declared.field.Field.{Field}
use Rattle.exif_layout.specs.Groups.{Group, Entry, empty_group, is_ignored, with_entry, with_strips, with_tiles, with_jpeg, entry_of, changed, pushed, strips_set, tiles_set, jpeg_set, pushed_in}
use Rattle.exif_layout.specs.Slots.{Slot, known}
use Rattle.exif_layout.specs.Rewriting.{pushed_all, set_if, blocks_set, all_blocks_set, BlocksOf}

-- the group with a number, an empty one past the end
abbrev pub group_at : List Group → ℕ → Group
group_at groups ifd = get_or groups ifd empty_group

-- after a change the group with its number is the changed one
pub changed_same : (n : ℕ) (f : Group → Group) (groups : List Group) → group_at (changed n f groups) n ≡ f (group_at groups n)
changed_same zero f [] = refl
changed_same zero f (group ∷ groups) = refl
changed_same (suc n) f [] = changed_same n f []
changed_same (suc n) f (group ∷ groups) = changed_same n f groups

-- and the groups with other numbers are as before
pub changed_other : (n m : ℕ) (f : Group → Group) (groups : List Group) → n ≢ m → group_at (changed n f groups) m ≡ group_at groups m
changed_other zero zero f groups h = absurd (h refl)
changed_other zero (suc m) f [] h = refl
changed_other zero (suc m) f (group ∷ groups) h = refl
changed_other (suc n) zero f [] h = refl
changed_other (suc n) zero f (group ∷ groups) h = refl
changed_other (suc n) (suc m) f [] h = changed_other n m f [] (λ e. h (ap suc e))
changed_other (suc n) (suc m) f (group ∷ groups) h = changed_other n m f groups (λ e. h (ap suc e))

-- a change adds groups only as far as its number needs them
pub length-changed : (n : ℕ) (f : Group → Group) (groups : List Group) → length (changed n f groups) ≡ max (length groups) (suc n)
length-changed zero f [] = omega arith
length-changed zero f (group ∷ groups) = omega arith
length-changed (suc n) f [] = let e = length-changed n f [] in omega arith
length-changed (suc n) f (group ∷ groups) = let e = length-changed n f groups in omega arith

-- a function of a group that a change keeps
pub changed_keeps : {X : Type 0} (see : Group → X) (n m : ℕ) (f : Group → Group) (groups : List Group) → ((group : Group) → see (f group) ≡ see group)
    → see (group_at (changed n f groups) m) ≡ see (group_at groups m)
changed_keeps see n m f groups h = go (n == m) refl
  where
    go : (b : Bool) → (n == m) ≡ b → see (group_at (changed n f groups) m) ≡ see (group_at groups m)
    go true e =
        let k : n ≡ m = eqb-true n m e in
        ap (λ i. see (group_at (changed n f groups) i)) (sym k) ∙ ap see (changed_same n f groups) ∙ h (group_at groups n) ∙ ap (λ i. see (group_at groups i)) k
    go false e = ap see (changed_other n m f groups (eqb-false n m e))

with_entry_in : (a b : Context) (entry : Entry) (group : Group) → pushed_in (with_entry a entry group) b ≡ pushed_in group b ++ (if context_eq a b then entry ∷ [] else [])
with_entry_in Tiff Tiff entry group = refl
with_entry_in Tiff Exif entry group = sym (append-nil group.exif)
with_entry_in Tiff Gps entry group = sym (append-nil group.gps)
with_entry_in Tiff Interop entry group = sym (append-nil group.interop)
with_entry_in Exif Tiff entry group = sym (append-nil group.tiff)
with_entry_in Exif Exif entry group = refl
with_entry_in Exif Gps entry group = sym (append-nil group.gps)
with_entry_in Exif Interop entry group = sym (append-nil group.interop)
with_entry_in Gps Tiff entry group = sym (append-nil group.tiff)
with_entry_in Gps Exif entry group = sym (append-nil group.exif)
with_entry_in Gps Gps entry group = refl
with_entry_in Gps Interop entry group = sym (append-nil group.interop)
with_entry_in Interop Tiff entry group = sym (append-nil group.tiff)
with_entry_in Interop Exif entry group = sym (append-nil group.exif)
with_entry_in Interop Gps entry group = sym (append-nil group.gps)
with_entry_in Interop Interop entry group = refl

-- the entries that a push adds to a directory
abbrev pub entries_added : ℕ → Context → Field → List Entry
entries_added ifd context field =
    if is_ignored field.tag.0 field.tag.1 then []
    else (if field.ifd_num.0 == ifd then (if context_eq field.tag.0 context then entry_of field ∷ [] else []) else [])

-- a push adds its entry behind those of its directory, and none elsewhere or if ignored
pub pushed_entries : (field : Field) (groups : List Group) (ifd : ℕ) (context : Context)
    → pushed_in (group_at (pushed field groups) ifd) context ≡ pushed_in (group_at groups ifd) context ++ entries_added ifd context field
pushed_entries field groups ifd context = go (is_ignored field.tag.0 field.tag.1) (field.ifd_num.0 == ifd) refl refl
  where
    go : (a b : Bool) → is_ignored field.tag.0 field.tag.1 ≡ a → (field.ifd_num.0 == ifd) ≡ b
        → pushed_in (group_at (pushed field groups) ifd) context ≡ pushed_in (group_at groups ifd) context ++ entries_added ifd context field
    go true b e f = rw e (sym (append-nil (pushed_in (group_at groups ifd) context)))
    go false true e f =
        let k : field.ifd_num.0 ≡ ifd = eqb-true field.ifd_num.0 ifd f in
        let change : Group → Group = with_entry field.tag.0 (entry_of field) in
        rw (e, f) (ap (λ i. pushed_in (group_at (changed field.ifd_num.0 change groups) i) context) (sym k)
        ∙ ap (λ g. pushed_in g context) (changed_same field.ifd_num.0 change groups)
        ∙ with_entry_in field.tag.0 context (entry_of field) (group_at groups field.ifd_num.0)
        ∙ ap (λ i. pushed_in (group_at groups i) context ++ (if context_eq field.tag.0 context then entry_of field ∷ [] else [])) k)
    go false false e f =
        rw (e, f) (ap (λ g. pushed_in g context) (changed_other field.ifd_num.0 ifd (with_entry field.tag.0 (entry_of field)) groups (eqb-false field.ifd_num.0 ifd f))
        ∙ sym (append-nil (pushed_in (group_at groups ifd) context)))

-- the slots that a push adds to a directory
abbrev pub added : ℕ → Context → Field → List Slot
added ifd context field =
    if is_ignored field.tag.0 field.tag.1 then []
    else (if field.ifd_num.0 == ifd then (if context_eq field.tag.0 context then known (entry_of field) ∷ [] else []) else [])

-- the slots that are pushed in a directory
abbrev pub slots_in : List Group → ℕ → Context → List Slot
slots_in groups ifd context = map known (pushed_in (group_at groups ifd) context)

-- the slots that a push adds are those of the entries that it adds
pub known_added : (ifd : ℕ) (context : Context) (field : Field) → map known (entries_added ifd context field) ≡ added ifd context field
known_added ifd context field = cases (is_ignored field.tag.0 field.tag.1) (field.ifd_num.0 == ifd) (context_eq field.tag.0 context)
  where
    cases : (a b c : Bool) → map known (let r : List Entry = if a then [] else (if b then (if c then entry_of field ∷ [] else []) else []) in r)
        ≡ (if a then [] else (if b then (if c then known (entry_of field) ∷ [] else []) else []))
    cases true b c = refl
    cases false true true = refl
    cases false true false = refl
    cases false false c = refl

pushed_adds : (field : Field) (groups : List Group) (ifd : ℕ) (context : Context) → slots_in (pushed field groups) ifd context ≡ slots_in groups ifd context ++ added ifd context field
pushed_adds field groups ifd context =
    ap (map known) (pushed_entries field groups ifd context)
    ∙ map-append known (pushed_in (group_at groups ifd) context) (entries_added ifd context field)
    ∙ ap (λ r. slots_in groups ifd context ++ r) (known_added ifd context field)

-- pushes one after the other add their slots to a directory in push order
pub pushed_all_adds : (fields : List Field) (groups : List Group) (ifd : ℕ) (context : Context)
    → slots_in (pushed_all fields groups) ifd context ≡ slots_in groups ifd context ++ flat_map (added ifd context) fields
pushed_all_adds [] groups ifd context = sym (append-nil (slots_in groups ifd context))
pushed_all_adds (field ∷ fields) groups ifd context =
    pushed_all_adds fields (pushed field groups) ifd context
    ∙ ap (λ r. r ++ flat_map (added ifd context) fields) (pushed_adds field groups ifd context)
    ∙ append_assoc (slots_in groups ifd context) (added ifd context field) (flat_map (added ifd context) fields)

-- the blocks of a group
abbrev pub blocks_at : Group → BlocksOf
blocks_at group = record { strips = group.strips; tiles = group.tiles; jpeg = group.jpeg }

with_entry_blocks : (context : Context) (entry : Entry) (group : Group) → blocks_at (with_entry context entry group) ≡ blocks_at group
with_entry_blocks Tiff entry group = refl
with_entry_blocks Exif entry group = refl
with_entry_blocks Gps entry group = refl
with_entry_blocks Interop entry group = refl

-- a push leaves the blocks of every group as they were
pub pushed_blocks : (field : Field) (groups : List Group) (ifd : ℕ) → blocks_at (group_at (pushed field groups) ifd) ≡ blocks_at (group_at groups ifd)
pushed_blocks field groups ifd =
    elim (is_ignored field.tag.0 field.tag.1) as (λ b. blocks_at (group_at (if b then groups else changed field.ifd_num.0 (with_entry field.tag.0 (entry_of field)) groups) ifd) ≡ blocks_at (group_at groups ifd)) [
      | true ↦ refl
      | false ↦ changed_keeps blocks_at field.ifd_num.0 ifd (with_entry field.tag.0 (entry_of field)) groups (with_entry_blocks field.tag.0 (entry_of field))
    ]

-- and so do pushes one after the other
pub pushed_all_blocks : (fields : List Field) (groups : List Group) (ifd : ℕ) → blocks_at (group_at (pushed_all fields groups) ifd) ≡ blocks_at (group_at groups ifd)
pushed_all_blocks [] groups ifd = refl
pushed_all_blocks (field ∷ fields) groups ifd = pushed_all_blocks fields (pushed field groups) ifd ∙ pushed_blocks field groups ifd

-- what is set, or else what was
abbrev pub or_else : {X : Type 0} → Option X → Option X → Option X
or_else None old = old
or_else (Some x) old = Some x

-- a group with the blocks of another one, or its own of each kind that the other has not set
abbrev pub with_blocks : Group → Group → Group
with_blocks from group = record group { strips = or_else from.strips group.strips; tiles = or_else from.tiles group.tiles; jpeg = or_else from.jpeg group.jpeg }

strips_if : (set : Option (List (List ℕ))) (n : ℕ) (groups : List Group) → group_at (set_if strips_set set n groups) n ≡ record (group_at groups n) { strips = or_else set (group_at groups n).strips }
strips_if None n groups = refl
strips_if (Some x) n groups = changed_same n (with_strips x) groups

tiles_if : (set : Option (List (List ℕ))) (n : ℕ) (groups : List Group) → group_at (set_if tiles_set set n groups) n ≡ record (group_at groups n) { tiles = or_else set (group_at groups n).tiles }
tiles_if None n groups = refl
tiles_if (Some x) n groups = changed_same n (with_tiles x) groups

jpeg_if : (set : Option (List ℕ)) (n : ℕ) (groups : List Group) → group_at (set_if jpeg_set set n groups) n ≡ record (group_at groups n) { jpeg = or_else set (group_at groups n).jpeg }
jpeg_if None n groups = refl
jpeg_if (Some x) n groups = changed_same n (with_jpeg x) groups

blocks_set_same : (from : Group) (n : ℕ) (groups : List Group) → group_at (blocks_set from n groups) n ≡ with_blocks from (group_at groups n)
blocks_set_same from n groups =
    jpeg_if from.jpeg n (set_if tiles_set from.tiles n (set_if strips_set from.strips n groups))
    ∙ ap {B = Group} (λ (g : Group). record g { jpeg = or_else from.jpeg g.jpeg }) (tiles_if from.tiles n (set_if strips_set from.strips n groups)
    ∙ ap {B = Group} (λ (g : Group). record g { tiles = or_else from.tiles g.tiles }) (strips_if from.strips n groups))

set_if_other : {X : Type 0} (setter : X → ℕ → List Group → List Group) (set : Option X) (n m : ℕ) (groups : List Group)
    → ((x : X) (gs : List Group) → group_at (setter x n gs) m ≡ group_at gs m) → group_at (set_if setter set n groups) m ≡ group_at groups m
set_if_other setter None n m groups h = refl
set_if_other setter (Some x) n m groups h = h x groups

blocks_set_other : (from : Group) (n m : ℕ) (groups : List Group) → n ≢ m → group_at (blocks_set from n groups) m ≡ group_at groups m
blocks_set_other from n m groups h =
    set_if_other jpeg_set from.jpeg n m (set_if tiles_set from.tiles n (set_if strips_set from.strips n groups)) (λ x gs. changed_other n m (with_jpeg x) gs h)
    ∙ set_if_other tiles_set from.tiles n m (set_if strips_set from.strips n groups) (λ x gs. changed_other n m (with_tiles x) gs h)
    ∙ set_if_other strips_set from.strips n m groups (λ x gs. changed_other n m (with_strips x) gs h)

all_set_below : (froms : List Group) (n m : ℕ) (groups : List Group) → m < n → group_at (all_blocks_set n froms groups) m ≡ group_at groups m
all_set_below [] n m groups h = refl
all_set_below (from ∷ froms) n m groups h =
    all_set_below froms (suc n) m (blocks_set from n groups) (omega arith) ∙ blocks_set_other from n m groups (λ e. omega arith)

-- a group gets the blocks of the one that they are set from, and keeps its own where that has none
pub all_set_at : (froms : List Group) (n m : ℕ) (groups : List Group) → m < length froms
    → group_at (all_blocks_set n froms groups) (n + m) ≡ with_blocks (group_at froms m) (group_at groups (n + m))
all_set_at [] n m groups h = absurd (omega arith)
all_set_at (from ∷ froms) n zero groups h =
    let e : n + 0 ≡ n = omega arith in
    rw e (all_set_below froms (suc n) n (blocks_set from n groups) (omega arith) ∙ blocks_set_same from n groups)
all_set_at (from ∷ froms) n (suc m) groups h =
    let e : n + suc m ≡ suc n + m = omega arith in
    rw e (all_set_at froms (suc n) m (blocks_set from n groups) (omega arith)
    ∙ ap (with_blocks (group_at froms m)) (blocks_set_other from n (suc n + m) groups (λ k. omega arith)))
