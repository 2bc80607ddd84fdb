-- Blocks are where their fields say, and images are equal exactly where their fields and blocks are.
use Rattle.std.proofs.Common.{◌≡◌, ℕ, zero, suc, ◌+◌, ◌<◌, ◌≤◌, List, [], ◌∷◌, ◌++◌, length, take, drop, map, refl, sym, ap, ◌∙◌, arith, true, false, Option, Some, None}
use Rattle.std.specs.Prelude.{nat_lt, ◌↔◌}
use Rattle.std.proofs.lemmas.Bool.{lt-ltb, le-ltb}
use Rattle.std.proofs.lemmas.List.Elements.{filter-append}
use Rattle.std.specs.List.{AllByRecursion, AllZip, filter}
use Rattle.exif_base.specs.declared.endian.Order.{Order}
use Rattle.exif_types.specs.declared.value.Value.TheVariants.{Long}
use Rattle.exif_table.specs.declared.context.Context.{Context}
use Rattle.exif_table.specs.declared.context.Context.TheVariants.{Tiff}
use Rattle.exif_types.specs.declared.field.Field.{Field}
use Rattle.exif_tiff.specs.Trace.{chain_nodes, fields_of, faults_of, ordered_trace}
use Rattle.exif_layout.specs.Groups.{Group, strips_set, tiles_set, jpeg_set, single, pushed_in, blocks_in, offsets_tag, lengths_tag}
use Rattle.exif_layout.specs.Slots.{draft_of, block_list}
use Rattle.exif_layout.specs.declared.block_kind.BlockKind.{BlockKind}
use Rattle.exif_layout.specs.declared.block_kind.BlockKind.TheVariants.{Strips, Tiles, Jpeg}
use Rattle.exif_layout.specs.Image.{block_parts, draft_parts, parts_from, image}
use Rattle.exif_layout.specs.Offsets.{blocks_offset, offsets_from, draft_end, next_offset}
use Rattle.exif_layout.specs.Flat.{flat, flat_from, directory_fields}
use Rattle.exif_layout.specs.Refused.{write_fault}
use Rattle.exif_layout.specs.Layout.{Stands, BlocksNamed, BlocksStand, fields_under}
use Rattle.exif_layout.proofs.Images.Words.{AllStand}
use Rattle.exif_base.specs.Orders.{number_of}
use Rattle.exif_layout.specs.Ranged.{IsEntry, AreRanged, HavePlainTexts, AreReadable}
use Rattle.exif_layout.specs.ReadBack.{first_eight}
use Rattle.exif_layout.specs.Rewriting.{all_blocks, blocks_set, all_blocks_set, set_if, pushed_all}
use Rattle.exif_tiff.proofs.Members.{all_left, all_right}
use Rattle.exif_layout.proofs.Images.Whole.{not_refused, parts_stand}
use Rattle.exif_layout.proofs.Images.ReadBack.{Leaves, read_back, image_chain, image_leaves, faults_over, faults_under}
use Rattle.exif_layout.proofs.Images.Families.{draft_stands}
use Rattle.exif_layout.proofs.Images.Pushing.{group_at, blocks_at}
use Rattle.exif_layout.proofs.Images.Rewritten.{all_at, rewrites_same, AllNumbered, fields_numbered}
use Rattle.exif_layout.proofs.Images.Naming.{start_at, top_field, offsets_slots, lengths_slots, offsets_under, lengths_under}

-- the blocks of a group are in the image
blocks_stand_at : (order : Order) (bytes : List ℕ) (groups : List Group) (m start : ℕ) → m < length groups → AllStand bytes (parts_from order start (map draft_of groups))
    → (kind : BlockKind) → AllStand bytes (block_parts (blocks_offset (draft_of (group_at groups m)) (start_at m start groups) kind) (block_list (blocks_in (group_at groups m) kind)))
blocks_stand_at order bytes [] m start h stands kind = absurd (omega arith)
blocks_stand_at order bytes (group ∷ groups) zero start h stands kind =
    let next : ℕ = next_offset (draft_end (draft_of group) start) (map draft_of groups) in
    (draft_stands order bytes (draft_of group) start next
    (all_left (λ part. Stands bytes part.offset part.text) (draft_parts order (draft_of group) start next) (parts_from order (draft_end (draft_of group) start) (map draft_of groups)) stands)).blocks kind
blocks_stand_at order bytes (group ∷ groups) (suc m) start h stands kind =
    let next : ℕ = next_offset (draft_end (draft_of group) start) (map draft_of groups) in
    blocks_stand_at order bytes groups m (draft_end (draft_of group) start) (omega arith)
    (all_right (λ part. Stands bytes part.offset part.text) (draft_parts order (draft_of group) start next) (parts_from order (draft_end (draft_of group) start) (map draft_of groups)) stands) kind

zip_stand : (bytes : List ℕ) (offset : ℕ) (texts : List (List ℕ)) → AllStand bytes (block_parts offset texts)
    → AllZip (λ offset text. Stands bytes offset text) (offsets_from offset (map length texts)) texts
zip_stand bytes offset [] h = tt
zip_stand bytes offset (text ∷ texts) h = (h.0, zip_stand bytes (offset + length text) texts h.1)

entries_at : (groups : List Group) (m : ℕ) → m < length groups → AreRanged groups → (context : Context) → AllByRecursion (IsEntry context) (pushed_in (group_at groups m) context)
entries_at groups m h ranged =
    all_at (λ group. (context : Context) → AllByRecursion (IsEntry context) (pushed_in group context)) groups m h ranged

-- each block of an image that is written is where the two fields of its kind say
pub blocks_stand : (order : Order) (groups : List Group) → AreRanged groups → write_fault groups ≡ None → BlocksStand order groups
blocks_stand order groups ranged written ifd kind texts h is =
    let stands = parts_stand order groups (not_refused groups written).each in
    let group : Group = group_at groups ifd in
    let start : ℕ = start_at ifd 8 groups in
    let here = blocks_stand_at order (image order groups) groups ifd 8 h stands.1 kind in
    let list : block_list (blocks_in group kind) ≡ texts = ap block_list is in
    let entries = entries_at groups ifd h ranged Tiff in
    record {
      offsets = offsets_from (blocks_offset (draft_of group) start kind) (map length texts);
      offsets_named = offsets_under groups ifd kind h entries ∙ ap (λ o. map (top_field (draft_of group) start ifd) (offsets_slots kind o)) is;
      lengths_named = lengths_under groups ifd kind h entries ∙ ap (λ o. map (top_field (draft_of group) start ifd) (lengths_slots kind o)) is;
      stand = zip_stand (image order groups) (blocks_offset (draft_of group) start kind) texts (rw list at here);
    }

-- the numbers of the first field, if it has long ones
longs : List Field → List ℕ
longs [] = []
longs (field ∷ fields) = elim field.value [ Long xs ↦ xs | _ ↦ [] ]

-- texts of the same lengths at the same offsets are the same
same_texts : (bytes : List ℕ) (offsets : List ℕ) (a b : List (List ℕ)) → map length a ≡ map length b → AllZip (λ offset text. Stands bytes offset text) offsets a
    → AllZip (λ offset text. Stands bytes offset text) offsets b → a ≡ b
same_texts bytes [] [] [] e s t = refl
same_texts bytes [] [] (y ∷ b) e s t = absurd cc
same_texts bytes [] (x ∷ a) b e s t = absurd s
same_texts bytes (p ∷ offsets) [] b e s t = absurd s
same_texts bytes (p ∷ offsets) (x ∷ a) [] e s t = absurd t
same_texts bytes (p ∷ offsets) (x ∷ a) (y ∷ b) e s t =
    let first : length x ≡ length y = cc in
    let rest : map length a ≡ map length b = cc in
    let one : x ≡ y = sym s.0.there ∙ ap (λ n. take n (drop p bytes)) first ∙ t.0.there in
    λ i. one i ∷ same_texts bytes offsets a b rest s.1 t.1 i

-- blocks that are in one image under the same fields are the same
same_option : (bytes : List ℕ) (fs gs : List Field) (ifd : ℕ) (kind : BlockKind) (a b : Option (List (List ℕ)))
    → fs ≡ gs
    → ((texts : List (List ℕ)) → a ≡ Some texts → BlocksNamed bytes fs ifd kind texts) → (a ≡ None → fields_under (offsets_tag kind) ifd fs ≡ [])
    → ((texts : List (List ℕ)) → b ≡ Some texts → BlocksNamed bytes gs ifd kind texts) → (b ≡ None → fields_under (offsets_tag kind) ifd gs ≡ [])
    → a ≡ b
unfolding longs
same_option bytes fs gs ifd kind None None e s n t m = refl
same_option bytes fs gs ifd kind None (Some y) e s n t m =
    let k = sym (n refl) ∙ ap (fields_under (offsets_tag kind) ifd) e ∙ (t y refl).offsets_named in absurd cc
same_option bytes fs gs ifd kind (Some x) None e s n t m =
    let k = sym (m refl) ∙ ap (fields_under (offsets_tag kind) ifd) (sym e) ∙ (s x refl).offsets_named in absurd cc
same_option bytes fs gs ifd kind (Some x) (Some y) e s n t m =
    let one = s x refl in
    let two = t y refl in
    let offsets : one.offsets ≡ two.offsets = ap longs (sym one.offsets_named ∙ ap (fields_under (offsets_tag kind) ifd) e ∙ two.offsets_named) in
    let lengths : map length x ≡ map length y = ap longs (sym one.lengths_named ∙ ap (fields_under (lengths_tag kind) ifd) e ∙ two.lengths_named) in
    ap Some (same_texts bytes two.offsets x y lengths (rw offsets at one.stand) two.stand)

nothing_under : (groups : List Group) (ifd : ℕ) (kind : BlockKind) → ifd < length groups → AreRanged groups → blocks_in (group_at groups ifd) kind ≡ None
    → fields_under (offsets_tag kind) ifd (flat groups) ≡ []
nothing_under groups ifd kind h ranged is =
    offsets_under groups ifd kind h (entries_at groups ifd h ranged Tiff)
    ∙ ap (λ o. map (top_field (draft_of (group_at groups ifd)) (start_at ifd 8 groups) ifd) (offsets_slots kind o)) is

single_same : (a b : Option (List ℕ)) → single a ≡ single b → a ≡ b
single_same None None h = refl
single_same None (Some b) h = absurd cc
single_same (Some a) None h = absurd cc
single_same (Some a) (Some b) h = cc

same_all_blocks : (xs ys : List Group) → length xs ≡ length ys → ((m : ℕ) → m < length ys → blocks_at (group_at xs m) ≡ blocks_at (group_at ys m)) → all_blocks xs ≡ all_blocks ys
same_all_blocks [] [] n h = refl
same_all_blocks [] (y ∷ ys) n h = absurd (omega arith)
same_all_blocks (x ∷ xs) [] n h = absurd (omega arith)
same_all_blocks (x ∷ xs) (y ∷ ys) n h = λ i. h 0 (omega arith) i ∷ same_all_blocks xs ys (omega arith) (λ m k. h (suc m) (omega arith)) i

over_none : (count : ℕ) (groups : List Group) → faults_over count groups ≡ [] → length groups ≤ count
over_none count [] h = omega arith
over_none zero (group ∷ groups) h = absurd cc
over_none (suc count) (group ∷ groups) h = let k = over_none count groups h in omega arith

fewer : (order : Order) (groups others : List Group) → AreReadable groups → AreReadable others → image order groups ≡ image order others → length others ≤ length groups
fewer order groups others h k e =
    over_none (length groups) others
    (sym (image_chain order others (length groups) k.ranged k.plain k.written).failed
    ∙ ap (λ bytes. faults_of (chain_nodes (length groups) (number_of order) bytes 0 8)) (sym e)
    ∙ (image_chain order groups (length groups) h.ranged h.plain h.written).failed ∙ faults_under (length groups) groups (omega arith))

same_contents : (order : Order) (groups others : List Group) → AreReadable groups → AreReadable others → image order groups ≡ image order others
    → (flat groups ≡ flat others) × (all_blocks groups ≡ all_blocks others)
same_contents order groups others h k e =
    let a = fewer order groups others h k e in
    let b = fewer order others groups k h (sym e) in
    let n : length groups ≡ length others = omega arith in
    let flats : flat groups ≡ flat others =
    sym (read_back order groups h.ranged h.plain h.few h.written).seen ∙ ap (λ bytes. fields_of (ordered_trace (number_of order) bytes)) e ∙ (read_back order others k.ranged k.plain k.few k.written).seen in
    let same : (m : ℕ) → m < length others → (kind : BlockKind) → blocks_in (group_at groups m) kind ≡ blocks_in (group_at others m) kind =
    λ m low kind. same_option (image order others) (flat groups) (flat others) m kind _ _ flats
    (λ texts is. rw e at (blocks_stand order groups h.ranged h.written m kind texts (omega arith) is)) (nothing_under groups m kind (omega arith) h.ranged)
    (λ texts is. blocks_stand order others k.ranged k.written m kind texts low is) (nothing_under others m kind low k.ranged) in (
      flats,
      same_all_blocks groups others n
          (λ m low i. record { strips = same m low Strips i; tiles = same m low Tiles i; jpeg = single_same (group_at groups m).jpeg (group_at others m).jpeg (same m low Jpeg) i }),
    )

same_set : (xs ys : List Group) (n : ℕ) (groups : List Group) → all_blocks xs ≡ all_blocks ys → all_blocks_set n xs groups ≡ all_blocks_set n ys groups
same_set [] [] n groups e = refl
same_set [] (y ∷ ys) n groups e = absurd cc
same_set (x ∷ xs) [] n groups e = absurd cc
same_set (x ∷ xs) (y ∷ ys) n groups e =
    let first : blocks_at x ≡ blocks_at y = cc in
    let rest : all_blocks xs ≡ all_blocks ys = cc in
    let one : blocks_set x n groups ≡ blocks_set y n groups =
    λ i. set_if jpeg_set (first i).jpeg n (set_if tiles_set (first i).tiles n (set_if strips_set (first i).strips n groups)) in
    ap (λ g. all_blocks_set (suc n) xs g) one ∙ same_set xs ys (suc n) (blocks_set y n groups) rest

-- Images in one byte order are equal exactly where their fields and their blocks are.
pub same_images : (order : Order) (groups others : List Group) → AreReadable groups → AreReadable others
    → (image order groups ≡ image order others) ↔ ((flat groups ≡ flat others) × (all_blocks groups ≡ all_blocks others))
same_images order groups others h k = (
  same_contents order groups others h k,
  λ e. sym (rewrites_same order groups h.ranged h.written)
      ∙ ap (image order) (ap (λ f. all_blocks_set 0 groups (pushed_all f [])) e.0 ∙ same_set groups others 0 (pushed_all (flat others) []) e.1)
      ∙ rewrites_same order others k.ranged k.written,
)

-- The fields of the first directories are the flat fields of the first groups.
all_below : (fs : List Field) (n limit : ℕ) → n < limit → AllNumbered n fs → filter (λ field. nat_lt field.ifd_num.0 limit) fs ≡ fs
all_below [] n limit h a = refl
all_below (field ∷ fs) n limit h a =
    let low : nat_lt field.ifd_num.0 limit ≡ true = lt-ltb field.ifd_num.0 limit (let e = a.0 in omega arith) in
    rw low (ap (λ r. field ∷ r) (all_below fs n limit h a.1))

none_below : (fs : List Field) (n limit : ℕ) → limit ≤ n → AllNumbered n fs → filter (λ field. nat_lt field.ifd_num.0 limit) fs ≡ []
none_below [] n limit h a = refl
none_below (field ∷ fs) n limit h a =
    let high : nat_lt field.ifd_num.0 limit ≡ false = le-ltb field.ifd_num.0 limit (let e = a.0 in omega arith) in
    rw high (none_below fs n limit h a.1)

flat_over : (groups : List Group) (n start limit : ℕ) → limit ≤ n → filter (λ field. nat_lt field.ifd_num.0 limit) (flat_from n start (map draft_of groups)) ≡ []
flat_over [] n start limit h = refl
flat_over (group ∷ groups) n start limit h =
    filter-append (λ field. nat_lt field.ifd_num.0 limit) (directory_fields (draft_of group) start n 3 Tiff) (flat_from (suc n) (draft_end (draft_of group) start) (map draft_of groups))
    ∙ (λ i. none_below (directory_fields (draft_of group) start n 3 Tiff) n limit h (fields_numbered (draft_of group) start n 3 Tiff) i
    ++ flat_over groups (suc n) (draft_end (draft_of group) start) limit (omega arith) i)

flat_front : (groups : List Group) (count n start : ℕ)
    → filter (λ field. nat_lt field.ifd_num.0 (n + count)) (flat_from n start (map draft_of groups)) ≡ flat_from n start (map draft_of (take count groups))
flat_front [] zero n start = refl
flat_front [] (suc count) n start = refl
flat_front (group ∷ groups) zero n start = let e : n + 0 ≡ n = omega arith in rw e (flat_over (group ∷ groups) n start n (omega arith))
flat_front (group ∷ groups) (suc count) n start =
    let e : n + suc count ≡ suc n + count = omega arith in
    let fs : List Field = directory_fields (draft_of group) start n 3 Tiff in
    rw e (filter-append (λ field. nat_lt field.ifd_num.0 (suc n + count)) fs (flat_from (suc n) (draft_end (draft_of group) start) (map draft_of groups))
    ∙ (λ i. all_below fs n (suc n + count) (omega arith) (fields_numbered (draft_of group) start n 3 Tiff) i
    ++ flat_front groups count (suc n) (draft_end (draft_of group) start) i))

-- An image of more than eight groups is read as the part of its flat fields below the ninth, and one fault.
pub reads_front : (order : Order) (groups : List Group) → AreRanged groups → HavePlainTexts groups → write_fault groups ≡ None
    → Leaves (ordered_trace (number_of order) (image order groups)) (first_eight (flat groups)) (faults_over 8 groups)
unfolding flat
reads_front order groups ranged clean h =
    let leaves = image_leaves order groups ranged clean h in
    record { seen = leaves.seen ∙ sym (flat_front groups 8 0 8); failed = leaves.failed }
