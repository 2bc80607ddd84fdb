-- What holds of each pushed field holds of each entry of the groups that pushing makes.
use Rattle.std.proofs.Common.{◌≡◌, ◌∙◌, ℕ, zero, suc, ◌<◌, List, [], ◌∷◌, length, refl, ap, subst, arith, Bool, true, false, Option, Some, None, inl, inr, ◌⊎◌}
use Rattle.std.specs.Prelude.{if◌then◌else◌, ◌==◌}
use Rattle.std.specs.List.{AllByRecursion, Contains}
use Rattle.std.proofs.lemmas.Bool.{eqb-true}
use Rattle.std.proofs.lemmas.List.Elements.{All-contains_itself, recursion_from_All, All-from_recursion}
use Rattle.exif_types.specs.Lookup.{context_eq}
use Rattle.exif_types.specs.Sound.{HasPlainTexts}
use Rattle.exif_table.specs.declared.context.Context.{Context}
use Rattle.exif_table.specs.declared.context.Context.TheVariants.{Tiff, Exif, Gps, Interop}
use Rattle.exif_types.specs.declared.field.Field.{Field}
use Rattle.exif_layout.specs.declared.block_kind.BlockKind.{BlockKind}
use Rattle.exif_layout.specs.declared.block_kind.BlockKind.TheVariants.{Strips, Tiles, Jpeg}
use Rattle.exif_layout.specs.Encoding.{moved_to}
use Rattle.exif_layout.specs.Flat.{field_of, flat}
use Rattle.exif_layout.specs.Groups.{Group, Entry, empty_group, is_ignored, entry_of, pushed, pushed_in, single, blocks_in, strips_set, tiles_set, jpeg_set}
use Rattle.exif_layout.specs.Ranged.{IsEntry}
use Rattle.exif_layout.specs.Rewriting.{pushed_all, all_blocks_set, blocks_set, set_if, BlocksOf}
use Rattle.exif_layout.specs.Pushing.{IsFieldRanged, PushesPlainTexts, PushesRanged, PushesFew, PushesNoBlocks, SetsNothing, IsPushed, NamesBlocks, HasPushedAndBlocks, IsMoved, HasPushedAlone}
use Rattle.exif_tiff.proofs.Members.{all_append}
use Rattle.exif_layout.proofs.Images.Pushing.{group_at, entries_added, pushed_entries, pushed_all_blocks, blocks_at}
use Rattle.exif_layout.proofs.Images.Rewritten.{length-pushed_all}
use Rattle.exif_layout.proofs.Images.Shares.{always}
use Rattle.exif_layout.proofs.Images.Members.{flat_has}

-- what holds of the group under each number holds of each member
pub all_by_number : (P : Group → Type 0) (groups : List Group) → ((m : ℕ) → m < length groups → P (group_at groups m)) → AllByRecursion P groups
all_by_number P [] h = tt
all_by_number P (group ∷ groups) h = (h 0 (omega arith), all_by_number P groups (λ m k. h (suc m) (omega arith)))

-- of each entry of the directory with a number and a context
abbrev EntriesHave : (ℕ → Context → Entry → Type 0) → List Group → Type 0
EntriesHave Q groups = (m : ℕ) (context : Context) → AllByRecursion (Q m context) (pushed_in (group_at groups m) context)

module _ (Q : ℕ → Context → Entry → Type 0) where
  empty_have : EntriesHave Q []
  empty_have m Tiff = tt
  empty_have m Exif = tt
  empty_have m Gps = tt
  empty_have m Interop = tt

  if_same : (m : ℕ) (a b : Context) (entry : Entry) → Q m a entry → AllByRecursion (Q m b) (if context_eq a b then entry ∷ [] else [])
  if_same m Tiff Tiff entry q = (q, tt)
  if_same m Exif Exif entry q = (q, tt)
  if_same m Gps Gps entry q = (q, tt)
  if_same m Interop Interop entry q = (q, tt)
  if_same m _ _ entry q = tt

  added_have : (field : Field) → (is_ignored field.tag.0 field.tag.1 ≡ false → Q field.ifd_num.0 field.tag.0 (entry_of field))
      → (m : ℕ) (context : Context) → AllByRecursion (Q m context) (entries_added m context field)
  added_have field q m context = go (is_ignored field.tag.0 field.tag.1) (field.ifd_num.0 == m) refl refl
    where
      go : (a b : Bool) → is_ignored field.tag.0 field.tag.1 ≡ a → (field.ifd_num.0 == m) ≡ b → AllByRecursion (Q m context) (entries_added m context field)
      go true b e f = rw e tt
      go false true e f =
          let k : field.ifd_num.0 ≡ m = eqb-true field.ifd_num.0 m f in
          rw (e, f) (if_same m field.tag.0 context (entry_of field) (subst (λ (n : ℕ). Q n field.tag.0 (entry_of field)) k (q e)))
      go false false e f = rw (e, f) tt

  -- what holds of all entries, and of all fields not ignored, holds after the fields are pushed
  pub pushed_all_have : (fields : List Field) (groups : List Group)
      → AllByRecursion (λ field. is_ignored field.tag.0 field.tag.1 ≡ false → Q field.ifd_num.0 field.tag.0 (entry_of field)) fields
      → EntriesHave Q groups → EntriesHave Q (pushed_all fields groups)
  pushed_all_have [] groups h k = k
  pushed_all_have (field ∷ fields) groups h k =
      pushed_all_have fields (pushed field groups) h.1
      (λ m context. rw (pushed_entries field groups m context)
      (all_append (Q m context) (pushed_in (group_at groups m) context) (entries_added m context field) (k m context) (added_have field h.0 m context)))

-- the same of each member, and of the directory with each number
entries_from : (Q : Context → Entry → Type 0) (groups : List Group)
    → AllByRecursion (λ group. (context : Context) → AllByRecursion (Q context) (pushed_in group context)) groups → EntriesHave (λ m. Q) groups
entries_from Q groups h m context = go groups m h
  where
    go : (groups : List Group) (m : ℕ) → AllByRecursion (λ group. (context : Context) → AllByRecursion (Q context) (pushed_in group context)) groups → AllByRecursion (Q context) (pushed_in (group_at groups m) context)
    go [] m h = empty_have (λ m. Q) m context
    go (group ∷ groups) zero h = h.0 context
    go (group ∷ groups) (suc m) h = go groups m h.1

entries_to : (Q : Context → Entry → Type 0) (groups : List Group) → EntriesHave (λ m. Q) groups
    → AllByRecursion (λ group. (context : Context) → AllByRecursion (Q context) (pushed_in group context)) groups
entries_to Q groups h =
    all_by_number (λ group. (context : Context) → AllByRecursion (Q context) (pushed_in group context)) groups (λ m k context. h m context)

-- where one property gives another, a list whose members have the one have the other too
pub weaker : {X : Type 0} (P Q : X → Type 0) → ((x : X) → P x → Q x) → (xs : List X) → AllByRecursion P xs → AllByRecursion Q xs
weaker P Q f [] h = tt
weaker P Q f (x ∷ xs) h = (f x h.0, weaker P Q f xs h.1)

-- no entry of a directory that pushes make has a tag of the writer's own
pub always_pushed : (fields : List Field) (m : ℕ) (context : Context) → AllByRecursion (λ entry. is_ignored context entry.tag ≡ false) (pushed_in (group_at (pushed_all fields []) m) context)
always_pushed fields =
    let Q : ℕ → Context → Entry → Type 0 = λ m context entry. is_ignored context entry.tag ≡ false in
    pushed_all_have Q fields []
    (always (λ field. is_ignored field.tag.0 field.tag.1 ≡ false → is_ignored field.tag.0 field.tag.1 ≡ false) (λ field e. e) fields)
    (empty_have Q)

-- pushing fields with plain texts keeps the texts of all groups plain
pub pushes_plain : (fields : List Field) (groups : List Group) → PushesPlainTexts fields groups
pushes_plain fields groups plain h =
    let Q : Context → Entry → Type 0 = λ context entry. HasPlainTexts entry.value in
    entries_to Q (pushed_all fields groups)
    (pushed_all_have (λ m. Q) fields groups
    (weaker (λ field. HasPlainTexts field.value) (λ field. is_ignored field.tag.0 field.tag.1 ≡ false → HasPlainTexts field.value) (λ field p e. p) fields (recursion_from_All (λ field. HasPlainTexts field.value) fields plain))
    (entries_from Q groups h))

-- pushing fields of numbers that fit keeps all entries such as a writer may hold
pub pushes_ranged : (fields : List Field) (groups : List Group) → PushesRanged fields groups
pushes_ranged fields groups ranged h =
    entries_to IsEntry (pushed_all fields groups)
    (pushed_all_have (λ m. IsEntry) fields groups
    (weaker IsFieldRanged (λ field. is_ignored field.tag.0 field.tag.1 ≡ false → IsEntry field.tag.0 (entry_of field))
    (λ field p e. record { tag = p.tag; value = p.value; pushed = e }) fields (recursion_from_All IsFieldRanged fields ranged))
    (entries_from IsEntry groups h))

-- pushing fields of the first n directories leaves at most n groups, if there were no more
pub pushes_few : (n : ℕ) (fields : List Field) (groups : List Group) → PushesFew n fields groups
pushes_few n fields groups low h = length-pushed_all fields groups n (recursion_from_All (λ field. field.ifd_num.0 < n) fields low) h

-- Pushing sets no blocks, and setting none changes nothing.
abbrev NoBlocks : Group → Type 0
NoBlocks group = (kind : BlockKind) → blocks_in group kind ≡ None

same_blocks : (new old : Group) → blocks_at new ≡ blocks_at old → NoBlocks old → NoBlocks new
same_blocks new old e h Strips = ap (λ (b : BlocksOf). b.strips) e ∙ h Strips
same_blocks new old e h Tiles = ap (λ (b : BlocksOf). b.tiles) e ∙ h Tiles
same_blocks new old e h Jpeg = ap (λ (b : BlocksOf). single b.jpeg) e ∙ h Jpeg

none_at : (groups : List Group) (m : ℕ) → AllByRecursion NoBlocks groups → NoBlocks (group_at groups m)
none_at [] m h Strips = refl
none_at [] m h Tiles = refl
none_at [] m h Jpeg = refl
none_at (group ∷ groups) zero h kind = h.0 kind
none_at (group ∷ groups) (suc m) h kind = none_at groups m h.1 kind

-- pushing fields sets no blocks where there were none
pub pushes_no_blocks : (fields : List Field) (groups : List Group) → PushesNoBlocks fields groups
pushes_no_blocks fields groups h =
    All-from_recursion NoBlocks (pushed_all fields groups)
    (all_by_number NoBlocks (pushed_all fields groups)
    (λ m k. same_blocks (group_at (pushed_all fields groups) m) (group_at groups m) (pushed_all_blocks fields groups m) (none_at groups m (recursion_from_All NoBlocks groups h))))

no_single : (jpeg : Option (List ℕ)) → single jpeg ≡ None → jpeg ≡ None
no_single None h = refl
no_single (Some text) h = absurd cc

set_none : (group : Group) (n : ℕ) (groups : List Group) → NoBlocks group → blocks_set group n groups ≡ groups
set_none group n groups h =
    let s : group.strips ≡ None = h Strips in
    let t : group.tiles ≡ None = h Tiles in
    let j : group.jpeg ≡ None = no_single group.jpeg (h Jpeg) in
    λ i. set_if jpeg_set (j i) n (set_if tiles_set (t i) n (set_if strips_set (s i) n groups))

set_nothing : (from : List Group) (n : ℕ) (groups : List Group) → AllByRecursion NoBlocks from → all_blocks_set n from groups ≡ groups
set_nothing [] n groups h = refl
set_nothing (group ∷ from) n groups h = ap (all_blocks_set (suc n) from) (set_none group n groups h.0) ∙ set_nothing from (suc n) groups h.1

-- setting the blocks of groups that have none changes nothing
pub sets_nothing : (from groups : List Group) → SetsNothing from groups
sets_nothing from groups h = set_nothing from 0 groups (recursion_from_All NoBlocks from h)

-- Each field of an image is a pushed one or names blocks.
pub has_pushed_and_blocks : (groups : List Group) → HasPushedAndBlocks groups
has_pushed_and_blocks groups =
    let P : Field → Type 0 = λ field. IsPushed groups field ⊎ NamesBlocks groups field in
    All-from_recursion P (flat groups) (flat_has P groups (λ m k. record {
      pushed = λ context.
          weaker (Contains (pushed_in (group_at groups m) context)) (λ entry. (offset : ℕ) → P (field_of context entry.tag m (moved_to offset entry.value)))
          (λ entry c offset. inl (record { entry = entry; offset = offset; pushed = c; moved = refl }))
          (pushed_in (group_at groups m) context)
          (recursion_from_All (Contains (pushed_in (group_at groups m) context)) (pushed_in (group_at groups m) context) (All-contains_itself (pushed_in (group_at groups m) context)));
      offsets = λ kind texts is numbers. inr (record { kind = kind; texts = texts; numbers = numbers; set = is; names = inl refl });
      lengths = λ kind texts is numbers. inr (record { kind = kind; texts = texts; numbers = numbers; set = is; names = inr refl });
    }))

-- an entry of a pushed field
abbrev IsOf : List Field → ℕ → Context → Entry → Type 0
IsOf fields m context entry = (offset : ℕ) → IsMoved fields (field_of context entry.tag m (moved_to offset entry.value))

-- the image of pushed fields has no others, but undefined values may have other offsets
pub has_pushed_alone : (fields : List Field) → HasPushedAlone fields
has_pushed_alone fields =
    let made : List Group = pushed_all fields [] in
    let no_blocks = λ (m : ℕ). same_blocks (group_at made m) empty_group (pushed_all_blocks fields [] m) (none_at [] m tt) in
    let entries : EntriesHave (IsOf fields) made =
    pushed_all_have (IsOf fields) fields []
    (weaker (Contains fields) (λ field. is_ignored field.tag.0 field.tag.1 ≡ false → IsOf fields field.ifd_num.0 field.tag.0 (entry_of field))
    (λ field c e offset. record { from = field; offset = offset; given = c; moved = refl }) fields (recursion_from_All (Contains fields) fields (All-contains_itself fields)))
    (empty_have (IsOf fields)) in
    All-from_recursion (IsMoved fields) (flat made) (flat_has (IsMoved fields) made (λ m k. record {
      pushed = entries m;
      offsets = λ kind texts is numbers. (let n = no_blocks m kind in absurd cc);
      lengths = λ kind texts is numbers. (let n = no_blocks m kind in absurd cc);
    }))
