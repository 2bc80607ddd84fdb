-- What counts of entries say of lists of slots.
use Rattle.std.proofs.Common.{◌≡◌, ℕ, zero, suc, ◌+◌, ◌-◌, ◌%◌, ◌*◌, ◌<◌, ◌≤◌, ◌^◌, List, [], ◌∷◌, ◌++◌, length, map, take, drop, get_or, refl, sym, ap, subst, ◌∙◌, arith, append_assoc, ◌⊎◌, inl, inr, false, Option, Some, None}
use Rattle.std.specs.Prelude.{nat_le, IfNone, IfSome}
use Rattle.std.specs.List.{AllByRecursion}
use Rattle.std.proofs.lemmas.Bool.{lt-leb, or_parts, or_from}
use Rattle.std.proofs.lemmas.List.{take-append-drop, append-nil}
use denote.Ref.{Bor}
use Rattle.exif_types.specs.declared.field.Field.{Field}
use Rattle.exif_layout.proofs.Images.Exact as exact
use Rattle.exif_writer.specs.declared.measure.Tail.{Tail}
use Rattle.exif_writer.specs.Tails.{Tells}
use Rattle.exif_layout.specs.Views.{entries_in}
use Rattle.exif_writer.proofs.SendRunning.{up_to}
use Rattle.exif_layout.proofs.Moved.{same_moved}
use Rattle.exif_writer.proofs.BlockSums.{lens_length}
use Rattle.exif_layout.specs.EntryContents.{lens}
use Rattle.exif_layout.specs.declared.block_kind.BlockKind.{BlockKind}
use Rattle.exif_layout.specs.declared.block_kind.BlockKind.TheVariants.{Strips, Tiles, Jpeg}
use Rattle.exif_table.specs.declared.context.Context.{Context}
use Rattle.exif_table.specs.declared.context.Context.TheVariants.{Tiff, Exif, Gps, Interop}
use Rattle.exif_layout.proofs.Images.Counting.{values_end_is}
use Rattle.exif_writer.proofs.MeasureSteps.{tells_small}
use Rattle.exif_layout.specs.Groups.{Group, Entry, pushed_in, entry_of, offsets_tag, lengths_tag, single}
use Rattle.exif_layout.specs.Encoding.{value_len}
use Rattle.exif_layout.specs.Measuring.{span, last_out, end_from}
use Rattle.exif_layout.specs.Offsets.{even, after_values}
use Rattle.exif_layout.specs.Refused.{any_unknown, is_unknown}
use Rattle.exif_layout.specs.Slots.{Slot, OffsetsOf, LengthsOf, OffsetOf, known, content_len, set_slots, block_slots, pointer_slots, exif_slots, gps_slots, interop_slots, tiff_unsorted, unsorted, slots_of}

-- what follows of an answer that there is, and of none
pub none_map : {T P Q : Type 0} (o : Option T) → (P → Q) → IfNone o P → IfNone o Q
none_map None f p = f p
none_map (Some x) f p = tt

-- where an answer has a value, what follows from what holds of it holds too
pub some_map : {T : Type 0} {P Q : T → Type 0} (o : Option T) → ((x : T) → P x → Q x) → IfSome o P → IfSome o Q
some_map None f p = tt
some_map (Some x) f p = f x p

-- a number that 32 bits do not hold is 2^32 or more
pub at_least : (n : ℕ) → ¬ (n < 2 ^ 32) → 2 ^ 32 ≤ n
at_least n h = omega arith

-- the bytes of lists of slots
pub span-append : (xs ys : List Slot) → span (xs ++ ys) ≡ span xs + span ys
span-append [] ys = omega arith
span-append (x ∷ xs) ys = let e = span-append xs ys in omega arith

-- a value that isn't in its entry counts whole
pub over_one : (tail : Tail) (size : ℕ) (slots : List Slot) (slot : Slot) → 4 < size → Tells tail slots → content_len slot.content ≡ size
    → 2 ^ 32 ≤ tail.bytes + (size + size % 2) → 2 ^ 32 ≤ span (slots ++ slot ∷ [])
over_one tail size slots slot h t e over =
    let big : nat_le (content_len slot.content) 4 ≡ false = lt-leb (content_len slot.content) 4 (omega arith) in
    let k : span (slots ++ slot ∷ []) ≡ span slots + even (content_len slot.content) = exact.span_pushed slots slot ∙ rw big refl in
    let b = t.bytes in
    omega arith

-- where the last value alone takes 2^32 bytes or more, so do all together
pub over_alone : (size : ℕ) (slots : List Slot) (slot : Slot) → 2 ^ 32 ≤ size → content_len slot.content ≡ size → 2 ^ 32 ≤ span (slots ++ slot ∷ [])
over_alone size slots slot h e =
    let big : nat_le (content_len slot.content) 4 ≡ false = lt-leb (content_len slot.content) 4 (omega arith) in
    let k : span (slots ++ slot ∷ []) ≡ span slots + even (content_len slot.content) = exact.span_pushed slots slot ∙ rw big refl in
    omega arith

-- a slot, and another one behind it
pub pushed_two : (slots : List Slot) (a b : Slot) → (slots ++ a ∷ []) ++ b ∷ [] ≡ slots ++ a ∷ b ∷ []
pushed_two slots a b = append_assoc slots (a ∷ []) (b ∷ [])

-- values take no fewer bytes with one more entry behind the last
pub span_first : (slots : List Slot) (a b : Slot) → span (slots ++ a ∷ []) ≤ span (slots ++ a ∷ b ∷ [])
span_first slots a b =
    let e = ap span (pushed_two slots a b) in
    let k = span-append (slots ++ a ∷ []) (b ∷ []) in
    omega arith

-- the slot with the offsets of the blocks, the first of the two
abbrev pub offset_slot : BlockKind → List (Bor (List ℕ)) → Slot
offset_slot kind texts = record { tag = offsets_tag kind; content = OffsetsOf kind (lens texts) }

-- the slot with the lengths of the blocks, the second of the two
abbrev pub length_slot : BlockKind → List (Bor (List ℕ)) → Slot
length_slot kind texts = record { tag = lengths_tag kind; content = LengthsOf kind (lens texts) }

-- four bytes for each length of a block are as many as four bytes for each block
pub slot_len : (texts : List (Bor (List ℕ))) (size : ℕ) → size ≡ 4 * length texts → 4 * length (lens texts) ≡ size
slot_len texts size e = let k = lens_length texts in omega arith

-- where the offsets of blocks take 2^32 bytes or more, so do values with the blocks' two entries
pub over_many : (kind : BlockKind) (texts : List (Bor (List ℕ))) (slots : List Slot) → 2 ^ 32 ≤ 4 * length texts
    → 2 ^ 32 ≤ span (slots ++ offset_slot kind texts ∷ length_slot kind texts ∷ [])
over_many kind texts slots h =
    let one = over_alone (4 * length texts) slots (offset_slot kind texts) h (slot_len texts (4 * length texts) refl) in
    let two = span_first slots (offset_slot kind texts) (length_slot kind texts) in
    omega arith

-- the slots of pushed fields
abbrev pub of_fields : List (Bor Field) → List Slot
of_fields fields = map known (entries_in fields)

of_both : (xs ys : List (Bor Field)) → of_fields (xs ++ ys) ≡ of_fields xs ++ of_fields ys
of_both [] ys = refl
of_both (x ∷ xs) ys = ap (λ r. known (entry_of x.now) ∷ r) (of_both xs ys)

-- one more pushed field adds its slot behind the slots of those before it
pub of_more : (fields : List (Bor Field)) (i : ℕ) (x d : Bor Field) → i < length fields → x ≡ get_or fields i d
    → of_fields (take (i + 1) fields) ≡ of_fields (take i fields) ++ known (entry_of x.now) ∷ []
of_more fields i x d h e = ap of_fields (up_to fields i x d h e) ∙ of_both (take i fields) (x ∷ [])

-- the first ones take no more than all
pub span_front : (fields : List (Bor Field)) (n : ℕ) → span (of_fields (take n fields)) ≤ span (of_fields fields)
span_front fields n =
    let e : span (of_fields fields) ≡ span (of_fields (take n fields) ++ of_fields (drop n fields)) =
    ap (λ r. span (of_fields r)) (sym (take-append-drop n fields)) ∙ ap span (of_both (take n fields) (drop n fields)) in
    let k = span-append (of_fields (take n fields)) (of_fields (drop n fields)) in
    omega arith

-- how long the value of a pushed field is
pub known_len : (field : Field) → content_len (known (entry_of field)).content ≡ value_len field.value
known_len field = (same_moved field.value 0).len

-- none of the fields has a value of an unknown type
pub known_at : (fields : List (Bor Field)) (i : ℕ) (x d : Bor Field) → any_unknown (entries_in fields) ≡ false → i < length fields → x ≡ get_or fields i d
    → is_unknown x.now.value ≡ false
known_at [] i x d none h e = absurd (omega arith)
known_at (y ∷ fields) zero x d none h e = ap (λ f. is_unknown f.now.value) e ∙ (or_parts (is_unknown y.now.value) (any_unknown (entries_in fields)) none).0
known_at (y ∷ fields) (suc i) x d none h e = known_at fields i x d (or_parts (is_unknown y.now.value) (any_unknown (entries_in fields)) none).1 (omega arith) e

-- none of the entries has a value of an unknown type
pub all_known : (entries : List Entry) → AllByRecursion (λ entry. is_unknown entry.value ≡ false) entries → any_unknown entries ≡ false
all_known [] h = refl
all_known (entry ∷ entries) h = or_from (is_unknown entry.value) (any_unknown entries) h.0 (all_known entries h.1)

-- more slots take no less
pub span_longer : (xs ys : List Slot) → span xs ≤ span (xs ++ ys)
span_longer xs ys = let e = span-append xs ys in omega arith

-- slots whose values are in their entries say nothing
pub tells_pointer : (tail : Tail) (slots : List Slot) (tag : ℕ) (child : Context) (entries : List Slot) → Tells tail slots → Tells tail (slots ++ pointer_slots tag child entries)
tells_pointer tail slots tag child [] t = rw (append-nil slots) t
tells_pointer tail slots tag child (entry ∷ entries) t = tells_small tail 4 slots (record { tag = tag; content = OffsetOf child }) (omega arith) refl t

tells_jpeg : (tail : Tail) (slots : List Slot) (jpeg : Option (List ℕ)) → Tells tail slots → Tells tail (slots ++ set_slots Jpeg (single jpeg))
tells_jpeg tail slots None t = rw (append-nil slots) t
tells_jpeg tail slots (Some text) t =
    let a : Slot = record { tag = offsets_tag Jpeg; content = OffsetsOf Jpeg (length text ∷ []) } in
    let b : Slot = record { tag = lengths_tag Jpeg; content = LengthsOf Jpeg (length text ∷ []) } in
    let P : List Slot → Type 0 = Tells tail in
    subst P (pushed_two slots a b) (tells_small tail 4 (slots ++ a ∷ []) b (omega arith) refl (tells_small tail 4 slots a (omega arith) refl t))

-- the first of six lists of slots take no more than all
pub record Fronts (k s t all : List Slot) : Type 0 where
  pub one : span k ≤ span all
  pub two : span (k ++ s) ≤ span all
  pub three : span (k ++ s ++ t) ≤ span all

fronts : (k s t j e g : List Slot) → Fronts k s t (k ++ s ++ t ++ j ++ e ++ g)
fronts k s t j e g =
    let a = span-append (k ++ s ++ t ++ j ++ e) g in
    let b = span-append (k ++ s ++ t ++ j) e in
    let c = span-append (k ++ s ++ t) j in
    let d = span-append (k ++ s) t in
    let f = span-append k s in
    record { one = omega arith; two = omega arith; three = omega arith }

-- the directory of the chain: pushed fields, strips and tiles say all
module _ (group : Group) where
  -- pushed fields, these with strips, and both with tiles take no more bytes than all entries
  pub tiff_fronts : Fronts (map known group.tiff) (block_slots group Strips) (block_slots group Tiles) (tiff_unsorted group)
  tiff_fronts = fronts (map known group.tiff) (block_slots group Strips) (block_slots group Tiles) (block_slots group Jpeg)
      (pointer_slots 0x8769 Exif (exif_slots group)) (pointer_slots 0x8825 Gps (gps_slots group))

  -- what a count says of pushed fields, strips and tiles, it says of all entries
  pub tiff_told : (tail : Tail) → Tells tail (map known group.tiff ++ block_slots group Strips ++ block_slots group Tiles) → Tells tail (tiff_unsorted group)
  tiff_told tail t =
      tells_pointer tail _ 0x8825 Gps (gps_slots group) (tells_pointer tail _ 0x8769 Exif (exif_slots group)
      (tells_jpeg tail (map known group.tiff ++ block_slots group Strips ++ block_slots group Tiles) group.jpeg t))

-- the other directories: pushed fields say all
pub other_told : (tail : Tail) (group : Group) (context : Context) → (context ≡ Exif) ⊎ ((context ≡ Gps) ⊎ (context ≡ Interop))
    → Tells tail (map known (pushed_in group context)) → Tells tail (unsorted group context)
other_told tail group context (inl e) t = rw e (tells_pointer tail (map known group.exif) 0xa005 Interop (interop_slots group) (rw e at t))
other_told tail group context (inr (inl e)) t = rw e (rw e at t)
other_told tail group context (inr (inr e)) t = rw e (rw e at t)

-- pushed fields take no more than all entries of a directory
pub pushed_front : (group : Group) (context : Context) → span (map known (pushed_in group context)) ≤ span (unsorted group context)
pushed_front group Tiff = (tiff_fronts group).one
pushed_front group Exif = span_longer (map known group.exif) (pointer_slots 0xa005 Interop (interop_slots group))
pushed_front group Gps = omega arith
pushed_front group Interop = omega arith

-- values of many bytes end far behind their offset
pub span_beyond : (offset : ℕ) (group : Group) (context : Context) → 0 < offset → 2 ^ 32 ≤ span (unsorted group context) → 2 ^ 32 ≤ after_values offset (slots_of group context)
span_beyond offset group context low h = go (last_out (unsorted group context)) refl
  where
    go : (last : Option Slot) → last_out (unsorted group context) ≡ last → 2 ^ 32 ≤ after_values offset (slots_of group context)
    go None e = let none = exact.span_none (unsorted group context) e in absurd (omega arith)
    go (Some last) e =
        let k : after_values offset (slots_of group context) ≡ even offset + span (unsorted group context) - content_len last.content % 2 =
        values_end_is offset group context ∙ ap (end_from offset (span (unsorted group context))) e in
        omega arith
