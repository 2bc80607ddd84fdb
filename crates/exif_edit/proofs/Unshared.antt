-- Where an entry stands alone, its value is set: the edit is not refused as shared.
use Rattle.std.proofs.Common.{◌≡◌, ◌≤◌, ◌<◌, ◌+◌, ◌-◌, ◌*◌, ◌^◌, ◌==◌, max, ℕ, Bool, true, false, if◌then◌else◌, List, [], ◌∷◌, length, map, All, ◌⊎◌, inl, inr, Option, Some, None, Result, Ok, Err, refl, sym, ap, subst, ◌∙◌, arith}
use Rattle.std.specs.Prelude.{◌&&◌, ◌||◌, nat_le, nat_lt, not, slice_index}
use Rattle.std.specs.Bool.{beq}
use Rattle.std.specs.Cmp.{booleans_Decides}
use Rattle.std.specs.Cmp.Lexicographic.{pointwise}
use Rattle.std.specs.List.{list_any, AllByRecursion}
use Rattle.std.proofs.lemmas.Bool.{false≢true, and_parts, not-true, or_parts}
use Rattle.std.proofs.lemmas.Bool.Decides.{nat_tests}
use Rattle.std.proofs.lemmas.Slice.Eq.{slice_eq-Decides}
use Rattle.exif_base.specs.Bytes.{number_at}
use Rattle.exif_base.specs.Orders.{number_of, order_named}
use Rattle.exif_base.specs.declared.endian.Order.{Order}
use Rattle.exif_base.specs.declared.endian.Order.TheVariants.{Big, Little}
use Rattle.exif_table.specs.declared.context.Context.{Context}
use Rattle.exif_table.specs.declared.context.Context.TheVariants.{Tiff, Exif, Gps, Interop}
use Rattle.exif_tiff.specs.Decode.{decode}
use Rattle.exif_types.specs.FieldEq.{field_eq, field_Decides, tag_Decides}
use Rattle.exif_text.specs.FieldTypes.{type_of, known_length}
use Rattle.exif_types.specs.Lookup.{is_named, tag_eq}
use Rattle.exif_types.specs.Sound.{HasPlainTexts}
use Rattle.exif_types.specs.ValueTypes.{count_of}
use Rattle.exif_text.specs.declared.ifd.In.{In}
use Rattle.exif_types.specs.declared.tag.Tag.{Tag}
use Rattle.exif_types.specs.declared.value.Value.{Value}
use Rattle.exif_tiff.specs.declared.fault.Fault.{Fault}
use Rattle.exif_tiff.specs.Footprint.{Agree, Stretch}
use Rattle.exif_tiff.specs.Trace.{Node, child_of, entry_value, fields_of, faults_of, header, located_of, ordered_trace, trace}
use Rattle.exif_tiff.proofs.Agreement.{bytes_same, number_same, same_of}
use Rattle.exif_tiff.proofs.FootprintAnswers.{header_same}
use Rattle.exif_layout.specs.Encoding.{encode, moved_to}
use Rattle.exif_layout.specs.Ranged.{IsRanged}
use Rattle.exif_layout.specs.Refused.{is_unknown}
use Rattle.exif_layout.proofs.Images.Fitting.{fits_of}
use Rattle.exif_edit_base.specs.Locations.{Located, located}
use Rattle.exif_edit_base.proofs.LawsLocated.{ordered_fields}
use Rattle.exif_edit_base.specs.Causes.{Cause, offset_named, shared, too_long, unknown_type, unless, ◌>>=◌}
use Rattle.exif_edit_base.specs.Finding.{find_answer, last_located, replaced, with_value}
use Rattle.exif_edit_base.specs.Patches.{FitsIn, inside, patched}
use Rattle.exif_edit_base.specs.Readings.{Read, fault_eq, is_little, read_eq, reading, reads_as}
use Rattle.exif_edit_base.specs.declared.patch.Patch.{Patch}
use Rattle.exif_edit_base.specs.declared.patch.Span.{Span}
use Rattle.exif_edit_base.proofs.FindSteps.{any_map, field_of}
use Rattle.exif_edit_base.proofs.LocatedEntries.{IsSaid, last_said}
use Rattle.exif_edit_base.proofs.PatchSteps.{length-patched, patched_outside}
use Rattle.exif_edit_base.proofs.ReadSteps.{header_space, reading_by}
use Rattle.exif_edit_base.specs.Spans.{value_space}
use Rattle.exif_edit.specs.Setting.{checked, checked_patches, expected, names_offsets, set_patches, set_offset, value_answer, value_patches}
use Rattle.exif_edit.specs.Sharing.{IsSetUnshared, all_beside, changed_entry, overlaps, names_child, standing_at, is_unshared}
use Rattle.exif_edit.proofs.NewEntry.{new_value}
use Rattle.exif_edit.proofs.ReadSound.{fault_Decides}
use Rattle.exif_edit.proofs.Renewed.{ordered_told, renewed}
use Rattle.exif_edit.proofs.SetSound.{Fits, value_fits, value_misses}

-- ---- tests that fail

-- bytes of a stretch that is not met are not those of the span
pub missed : (s : Span) (t : Stretch) (i : ℕ) → overlaps s t ≡ false → t.offset ≤ i → i < t.offset + t.len
    → inside i s ≡ false
missed s t i m low high = by_tests (nat_le s.offset i) (nat_lt i (s.offset + s.len)) refl refl
  where
    not_met : nat_lt t.offset (s.offset + s.len) ≡ true → nat_lt s.offset (t.offset + t.len) ≡ true → ⊥
    not_met x y = false≢true (sym m ∙ rw (x, y) refl)

    by_tests : (x y : Bool) → nat_le s.offset i ≡ x → nat_lt i (s.offset + s.len) ≡ y
        → (x && y) ≡ false
    by_tests false y p q = refl
    by_tests true false p q = refl
    by_tests true true p q =
        absurd (not_met (grind (arith, nat_tests)) (grind (arith, nat_tests)))

-- a number that names no child names none in any directory
no_child : (n : ℕ) → names_child n ≡ false → (c : Context) → child_of c n ≡ None
no_child n h c =
    let a = or_parts (n == 0x8769) ((n == 0x8825) || (n == 0xa005)) h in
    let b = or_parts (n == 0x8825) (n == 0xa005) a.1 in
    by_context c a.0 b.0 b.1
  where
    by_context : (c : Context) → (n == 0x8769) ≡ false → (n == 0x8825) ≡ false
        → (n == 0xa005) ≡ false → child_of c n ≡ None
    by_context Tiff x y z = rw (x, y) refl
    by_context Exif x y z = rw z refl
    by_context Gps x y z = refl
    by_context Interop x y z = refl

-- ---- the field of a name, replaced

none_standing : (e : ℕ) (new : Value) (ls : List Located) → length (standing_at e ls) ≡ 0
    → map field_of ls ≡ map (renewed e new) ls
none_standing e new [] h = refl
none_standing e new (l ∷ ls) h = by_test (l.entry == e) refl (none_standing e new ls) h
  where
    by_test : (t : Bool) → (l.entry == e) ≡ t
        → (length (standing_at e ls) ≡ 0 → map field_of ls ≡ map (renewed e new) ls)
        → length (if t then l ∷ standing_at e ls else standing_at e ls) ≡ 0
        → map field_of (l ∷ ls) ≡ map (renewed e new) (l ∷ ls)
    by_test true t r h = absurd (omega (arith, h))
    by_test false t r h =
        let rest = r h in
        rw (t, rest) refl

-- where the last field of a name is located, some field is in its entry
pub last_stands : (tag : Tag) (k : In) (ls : List Located) (at : Located)
    → last_located tag k ls ≡ Some at → 0 < length (standing_at at.entry ls)
last_stands tag k [] at h = absurd (none_some h)
  where
    none_some : ◌≡◌ {A = Option Located} None (Some at) → ⊥
    none_some h = cc
last_stands tag k (l ∷ ls) at h =
    by_tests (list_any (λ (m : Located). is_named tag k m.field) ls) (is_named tag k l.field)
    (last_stands tag k ls at) h
  where
    grown : (t : Bool) → 0 < length (standing_at at.entry ls)
        → 0 < length (if t then l ∷ standing_at at.entry ls else standing_at at.entry ls)
    grown true h = omega arith
    grown false h = h

    first : (t : Bool) → (l.entry == at.entry) ≡ t → l ≡ at
        → 0 < length (if t then l ∷ standing_at at.entry ls else standing_at at.entry ls)
    first true t s = omega arith
    first false t s =
        let e : l.entry ≡ at.entry = ap (λ (m : Located). m.entry) s in
        absurd (grind (arith, nat_tests))

    same : ◌≡◌ {A = Option Located} (Some l) (Some at) → l ≡ at
    same h = cc

    none_some : ◌≡◌ {A = Option Located} None (Some at) → ⊥
    none_some h = cc

    by_tests : (s t : Bool)
        → (last_located tag k ls ≡ Some at → 0 < length (standing_at at.entry ls))
        → (if s then last_located tag k ls else (if t then Some l else None)) ≡ Some at
        → 0 < length (standing_at at.entry (l ∷ ls))
    by_tests true t r h = grown (l.entry == at.entry) (r h)
    by_tests false true r h = first (l.entry == at.entry) refl (same h)
    by_tests false false r h = absurd (none_some h)

replaced_renewed : (tag : Tag) (k : In) (new : Value) (ls : List Located) (at : Located)
    → last_located tag k ls ≡ Some at → length (standing_at at.entry ls) ≡ 1
    → replaced tag k new (map field_of ls) ≡ map (renewed at.entry new) ls
replaced_renewed tag k new [] at h one = absurd (omega (arith, one))
replaced_renewed tag k new (l ∷ ls) at h one =
    by_tests (list_any (λ (m : Located). is_named tag k m.field) ls) (is_named tag k l.field) refl
    refl (replaced_renewed tag k new ls at) h
  where
    same : ◌≡◌ {A = Option Located} (Some l) (Some at) → l ≡ at
    same h = cc

    none_some : ◌≡◌ {A = Option Located} None (Some at) → ⊥
    none_some h = cc

    -- the last is behind
    behind : (t : Bool) → (l.entry == at.entry) ≡ t → last_located tag k ls ≡ Some at
        → (length (standing_at at.entry ls) ≡ 1
        → replaced tag k new (map field_of ls) ≡ map (renewed at.entry new) ls)
        → length (if t then l ∷ standing_at at.entry ls else standing_at at.entry ls) ≡ 1
        → l.field ∷ replaced tag k new (map field_of ls) ≡ map (renewed at.entry new) (l ∷ ls)
    behind true t h r one = let some = last_stands tag k ls at h in absurd (omega (arith, one))
    behind false t h r one =
        let rest = r one in
        rw (t, rest) refl

    -- it is the first
    first : (t : Bool) → (l.entry == at.entry) ≡ t → l ≡ at
        → length (if t then l ∷ standing_at at.entry ls else standing_at at.entry ls) ≡ 1
        → with_value new l.field ∷ map field_of ls ≡ map (renewed at.entry new) (l ∷ ls)
    first true t s one =
        let rest = none_standing at.entry new ls (omega (arith, one)) in
        rw (t, rest) refl
    first false t s one =
        let e : l.entry ≡ at.entry = ap (λ (m : Located). m.entry) s in
        absurd (grind (arith, nat_tests))

    by_tests : (s t : Bool) → list_any (λ (m : Located). is_named tag k m.field) ls ≡ s
        → is_named tag k l.field ≡ t
        → (last_located tag k ls ≡ Some at → length (standing_at at.entry ls) ≡ 1
        → replaced tag k new (map field_of ls) ≡ map (renewed at.entry new) ls)
        → (if s then last_located tag k ls else (if t then Some l else None)) ≡ Some at
        → replaced tag k new (map field_of (l ∷ ls)) ≡ map (renewed at.entry new) (l ∷ ls)
    by_tests true t s n r h =
        let any : list_any (is_named tag k) (map field_of ls) ≡ true = sym (any_map tag k ls) ∙ s in
        rw any (behind (l.entry == at.entry) refl h (r h) one)
    by_tests false true s n r h =
        let any : list_any (is_named tag k) (map field_of ls) ≡ false = sym (any_map tag k ls) ∙ s in
        rw (any, n) (first (l.entry == at.entry) refl (same h) one)
    by_tests false false s n r h = absurd (none_some h)

-- ---- what is read is given so

read_itself : (r : Read) → read_eq r r ≡ true
read_itself r =
    let l : beq r.little r.little ≡ true = (booleans_Decides r.little r.little).1 refl in
    let f : pointwise field_eq r.fields r.fields ≡ true =
    (slice_eq-Decides field_Decides r.fields r.fields (pointwise field_eq r.fields r.fields) refl).1
    refl in
    let g : pointwise fault_eq r.faults r.faults ≡ true =
    (slice_eq-Decides fault_Decides r.faults r.faults (pointwise fault_eq r.faults r.faults) refl).1
    refl in
    rw (l, f, g) refl

reads_right : (bytes : List ℕ) (read : Read) → reading bytes ≡ Ok read → reads_as bytes read ≡ true
reads_right bytes read h =
    ap (λ (x : Result Read Fault). elim x [ Ok found ↦ read_eq found read | Err fault ↦ false ]) h
    ∙ read_itself read

-- the reading of data with a right header
abbrev pub read_in : Order → List ℕ → Read
read_in order bytes =
    let nodes = ordered_trace (number_of order) bytes in
    record { little = is_little order; fields = fields_of nodes; faults = faults_of nodes }

-- with a good header the data are read as what is in them in its byte order
pub reading_in : (bytes : List ℕ) (order : Order) → header bytes ≡ Ok order
    → reading bytes ≡ Ok (read_in order bytes)
unfolding reading
reading_in bytes order h = ap (λ x. reading_by x bytes) h

-- with a good header the located fields are those that are in the data in its byte order
pub located_in : (bytes : List ℕ) (order : Order) → header bytes ≡ Ok order
    → located bytes ≡ located_of (ordered_trace (number_of order) bytes)
unfolding located trace
located_in bytes order h =
    ap (λ (x : Result Order Fault). located_of (elim x as (λ _. List Node)
    [ Ok o ↦ ordered_trace (number_of o) bytes | Err fault ↦ [] ])) h

-- whether an order is little endian names that order again
pub named_order : (order : Order) → order_named (is_little order) ≡ order
named_order Big = refl
named_order Little = refl

-- the space of a value that lies in the data lies there
abbrev space_by : Bool → ℕ → ℕ → Span
space_by s offset size = if s then record { offset = 0; len = 0 } else record { offset = offset; len = size }

far_by : (s t : Bool) (offset size total : ℕ) (x y v : Value) → nat_le (offset + size) total ≡ t
    → (if s then Some x else (if t then Some y else None)) ≡ Some v
    → (space_by s offset size).offset + (space_by s offset size).len ≤ total
far_by true t offset size total x y v n h = omega arith
far_by false true offset size total x y v n h = grind (arith, nat_tests)
far_by false false offset size total x y v n h = absurd (none_some h)
  where
    none_some : ◌≡◌ {A = Option Value} None (Some v) → ⊥
    none_some h = cc

space_far : (order : Order) (bytes : List ℕ) (e : ℕ) (v : Value)
    → entry_value (number_of order) bytes e ≡ Some v
    → (value_space (number_of order) bytes e).offset + (value_space (number_of order) bytes e).len
    ≤ length bytes
space_far order bytes e v h =
    let type = number_at (number_of order) 2 bytes (e + 2) in
    let count = number_at (number_of order) 4 bytes (e + 4) in
    let size = known_length (type_of type) * count in
    let offset = number_at (number_of order) 4 bytes (e + 8) in
    far_by (nat_le size 4) (nat_le (offset + size) (length bytes)) offset size (length bytes)
    (decode (number_of order) type count bytes (e + 8))
    (decode (number_of order) type count bytes offset) v refl h

-- ---- an entry that stands alone

module _ (order : Order) (bytes : List ℕ) (tag : Tag) (k : In) (value : Value) (at : Located)
    (head : header bytes ≡ Ok order)
    (last : last_located tag k (located bytes) ≡ Some at)
    (alone : is_unshared (number_of order) bytes at.entry ≡ true)
    (childless : names_child tag.1 ≡ false) where
  abbrev e : ℕ
  e = at.entry

  abbrev space : Span
  space = value_space (number_of order) bytes e

  abbrev touched : Stretch → Bool
  touched t = overlaps (changed_entry e) t || overlaps space t

  abbrev itself : Stretch
  itself = record { offset = e; len = 12 }

  said : IsSaid (number_of order) bytes at.field e × (is_named tag k at.field ≡ true)
  said =
      last_said (number_of order) bytes tag k at
      (subst (λ ls. last_located tag k ls ≡ Some at) (located_in bytes order head) last)

  alone_by : (list_any touched (all_beside (number_of order) bytes e) ≡ false)
      × ((overlaps space itself ≡ false) × (length (standing_at e (located bytes)) ≡ 1))
  alone_by =
      let a = and_parts (not (list_any touched (all_beside (number_of order) bytes e)))
      (not (overlaps space itself) && (length (standing_at e (located bytes)) == 1)) alone in
      let b = and_parts (not (overlaps space itself)) (length (standing_at e (located bytes)) == 1) a.1 in
      let one = b.1 in (
        not-true (list_any touched (all_beside (number_of order) bytes e)) a.0,
        (not-true (overlaps space itself) b.0, grind (arith, nat_tests)),
      )

  module _ (ps : List Patch) (f : Fits order value e bytes ps) where
    abbrev out : List ℕ
    out = patched ps bytes

    fit : All (FitsIn (length bytes)) ps
    fit = value_fits order value e bytes ps f

    as_long : length bytes ≡ length out
    as_long = sym (length-patched ps bytes fit)

    byte_same : (i : ℕ) → inside i (changed_entry e) ≡ false → inside i space ≡ false
        → slice_index bytes i ≡ slice_index out i
    byte_same i x y =
        sym (patched_outside ps bytes i fit (value_misses order value e bytes ps i f x y))

    stretch_same : (t : Stretch) → touched t ≡ false → Agree bytes out t
    stretch_same t m =
        let a = or_parts (overlaps (changed_entry e) t) (overlaps space t) m in
        bytes_same bytes out t.offset t.len as_long
        (λ i low high. byte_same i (missed (changed_entry e) t i a.0 low high)
        (missed space t i a.1 low high))

    all_same : (ts : List Stretch) → list_any touched ts ≡ false → AllByRecursion (Agree bytes out) ts
    all_same [] h = tt
    all_same (t ∷ ts) h =
        let a = or_parts (touched t) (list_any touched ts) h in
        (stretch_same t a.0, all_same ts a.1)

    agree : AllByRecursion (Agree bytes out) (all_beside (number_of order) bytes e)
    agree = all_same (all_beside (number_of order) bytes e) alone_by.0

    tag_same : number_at (number_of order) 2 out e ≡ number_at (number_of order) 2 bytes e
    tag_same =
        sym (number_same order 2 bytes out e
        (λ i low high. byte_same i (before i high) (missed space itself i alone_by.1.0 low (omega arith))))
      where
        before : (i : ℕ) → i < e + 2 → inside i (changed_entry e) ≡ false
        before i high =
            let no : nat_le (e + 2) i ≡ false = grind (arith, nat_tests) in
            rw no refl

    head_out : header out ≡ Ok order
    head_out = sym (header_same bytes out as_long (same_of bytes out 0 8 agree.0)) ∙ head

    apart : (space.len ≡ 0) ⊎ ((space.offset + space.len ≤ e) ⊎ (e + 12 ≤ space.offset))
    apart = by_tests (nat_lt e (space.offset + space.len)) (nat_lt space.offset (e + 12)) refl refl alone_by.1.0
      where
        by_tests : (x y : Bool) → nat_lt e (space.offset + space.len) ≡ x → nat_lt space.offset (e + 12) ≡ y
            → (x && y) ≡ false → (space.len ≡ 0) ⊎ ((space.offset + space.len ≤ e) ⊎ (e + 12 ≤ space.offset))
        by_tests false y p q h = inr (inl (grind (arith, nat_tests)))
        by_tests true false p q h = inr (inr (grind (arith, nat_tests)))
        by_tests true true p q h = absurd (false≢true (sym h))

    abbrev new : Value
    new = moved_to (set_offset space.offset e (encode order value)) value

    reads_new : (ranged : IsRanged value) (plain : HasPlainTexts value) (known : is_unknown value ≡ false)
        (few : count_of value < 2 ^ 32)
        → reading out ≡ Ok (expected tag k value e bytes (read_in order bytes))
    reads_new ranged plain known few =
        let s = said.0 in
        let small = (header_space bytes order head).1 in
        let tags = (tag_Decides at.field.tag tag).0
        (and_parts (tag_eq at.field.tag tag) (at.field.ifd_num.0 == k.0) said.1).0 in
        let n : number_at (number_of order) 2 bytes e ≡ tag.1 = s.tag ∙ ap (λ (t : Tag). t.1) tags in
        let is = new_value order value e bytes ps f apart (fits_of value ranged plain known)
        (omega (arith, as_long)) (omega arith) in
        let told = ordered_told order bytes out as_long e at.field.value new s.value is tag_same
        (λ c. ap (child_of c) n ∙ no_child tag.1 childless c) agree in
        let ls = located_of (ordered_trace (number_of order) bytes) in
        let here = located_in bytes order head in
        let fields : fields_of (ordered_trace (number_of order) out)
        ≡ replaced tag k new (fields_of (ordered_trace (number_of order) bytes)) =
        told.0
        ∙ (sym (replaced_renewed tag k new ls at
        (subst (λ xs. last_located tag k xs ≡ Some at) here last)
        (subst (λ xs. length (standing_at e xs) ≡ 1) here alone_by.1.1))
        ∙ ap (replaced tag k new) (ordered_fields (number_of order) bytes)) in
        let faults = told.1 in
        let named = named_order order in
        reading_in out order head_out ∙ rw (fields, faults, named) refl

-- ---- the whole

module _ (tag : Tag) (k : In) (value : Value) (bytes : List ℕ) (order : Order) (at : Located)
    (head : header bytes ≡ Ok order)
    (last : last_located tag k (located bytes) ≡ Some at)
    (alone : is_unshared (number_of order) bytes at.entry ≡ true)
    (childless : names_child tag.1 ≡ false) (ranged : IsRanged value) (plain : HasPlainTexts value)
    (known : is_unknown value ≡ false) where
  abbrev space_at : Span
  space_at = value_space (number_of order) bytes at.entry

  abbrev made : List Patch
  made = value_patches order value at.entry space_at

  abbrev wanted : Read
  wanted = expected tag k value at.entry bytes (read_in order bytes)

  found_is : find_answer bytes tag k ≡ Ok (read_in order bytes, at.entry)
  unfolding find_answer
  found_is = let r = reading_in bytes order head in rw (r, last) refl

  -- without the steps that find the field
  found_so : checked_patches bytes tag k value
      ≡ (value_answer order value at.entry bytes >>= λ qs. checked wanted bytes qs)
  unfolding checked_patches
  found_so = let named = named_order order in rw (found_is, named) refl

  checked_right : nat_lt (2 ^ 32 - 1) (count_of value) ≡ false
      → nat_lt (max 4 space_at.len) (length (encode order value)) ≡ false
      → checked wanted bytes made ≡ Ok made
  checked_right few fits =
      let s = (said order bytes tag k value at head last alone childless).0 in
      let f : Fits order value at.entry bytes made = record {
        whole = s.whole;
        far = space_far order bytes at.entry at.field.value s.value;
        encoded = grind (arith, nat_tests);
        is = refl;
      } in
      let reads = reads_right (patched made bytes) wanted
      (reads_new order bytes tag k value at head last alone childless made f ranged plain known
      (grind (arith, nat_tests))) in
      ap (λ t. if t then Ok made else Err shared) reads

  -- what is left of the answer where its tests of offsets pass
  abbrev fitting : Bool → Bool → Result (List Patch) Cause
  fitting y z = unless y too_long >>= λ c. (unless z too_long >>= λ d. Ok made)

  answered : (value_answer order value at.entry bytes >>= λ qs. checked wanted bytes qs)
      ≡ fitting (nat_lt (2 ^ 32 - 1) (count_of value))
      (nat_lt (max 4 space_at.len) (length (encode order value)))
  unfolding value_answer
  answered =
      by_tests (nat_lt (length bytes) (at.entry + 12))
      (nat_lt (length bytes) (space_at.offset + space_at.len)) (nat_lt (2 ^ 32 - 1) (count_of value))
      (nat_lt (max 4 space_at.len) (length (encode order value))) refl refl refl refl
    where
      by_tests : (w x y z : Bool) → nat_lt (length bytes) (at.entry + 12) ≡ w
          → nat_lt (length bytes) (space_at.offset + space_at.len) ≡ x
          → nat_lt (2 ^ 32 - 1) (count_of value) ≡ y
          → nat_lt (max 4 space_at.len) (length (encode order value)) ≡ z
          → ((unless w shared >>= λ a. (unless x shared >>= λ b. fitting y z))
          >>= λ qs. checked wanted bytes qs) ≡ fitting y z
      by_tests true x y z p q r t =
          let whole = (said order bytes tag k value at head last alone childless).0.whole in
          absurd (grind (arith, nat_tests))
      by_tests false true y z p q r t =
          let s = (said order bytes tag k value at head last alone childless).0 in
          let far = space_far order bytes at.entry at.field.value s.value in
          absurd (grind (arith, nat_tests))
      by_tests false false true z p q r t = refl
      by_tests false false false true p q r t = refl
      by_tests false false false false p q r t = checked_right r t

-- where the entry stands alone, a value that reads back as it was is set if it fits
pub set_unshared : (tag : Tag) (k : In) (value : Value) (bytes : List ℕ) → IsSetUnshared tag k value bytes
unfolding set_patches
set_unshared tag k value bytes order at head last alone childless ranged plain =
    by_tests (names_offsets tag) (is_unknown value) refl
  where
    by_tests : (n u : Bool) → is_unknown value ≡ u
        → (unless n offset_named >>= λ a. (unless u unknown_type
        >>= λ b. checked_patches bytes tag k value))
        ≡ (unless n offset_named >>= λ a. (unless u unknown_type >>= λ b.
        (unless (nat_lt (2 ^ 32 - 1) (count_of value)) too_long >>= λ c.
        (unless
        (nat_lt (max 4 (value_space (number_of order) bytes at.entry).len) (length (encode order value)))
        too_long
        >>= λ d. Ok (value_patches order value at.entry (value_space (number_of order) bytes at.entry))))))
    by_tests true u known = refl
    by_tests false true known = refl
    by_tests false false known =
        found_so tag k value bytes order at head last alone childless ranged plain known
        ∙ answered tag k value bytes order at head last alone childless ranged plain known
