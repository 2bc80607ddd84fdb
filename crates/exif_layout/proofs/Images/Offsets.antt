-- The parts of an image are side by side.
use Rattle.std.proofs.Common.{◌≡◌, ℕ, suc, ◌+◌, ◌-◌, ◌*◌, ◌<◌, ◌≤◌, List, [], ◌∷◌, ◌++◌, length, replicate, refl, ap, ◌∙◌, arith, Bool, true, false, ◌⊎◌, ⊎_elim, inl, inr}
use Rattle.std.specs.Prelude.{if◌then◌else◌, nat_le}
use Rattle.std.proofs.lemmas.Bool.{leb-true}
use Rattle.std.proofs.lemmas.List.{length-append, length-replicate}
use Rattle.std.specs.List.{AllByRecursion, flat_map}
use Rattle.exif_base.specs.declared.endian.Order.{Order}
use Rattle.exif_layout.specs.Encoding.{spelled, encode, value_len}
use Rattle.exif_types.specs.ValueTypes.{type_number, count_of}
use Rattle.exif_table.specs.declared.context.Context.{Context}
use Rattle.exif_table.specs.declared.context.Context.TheVariants.{Tiff, Exif, Gps, Interop}
use Rattle.exif_layout.specs.Slots.{Draft, Content, Known, OffsetsOf, LengthsOf, OffsetOf, Slot, content_len}
use Rattle.exif_layout.specs.declared.block_kind.BlockKind.TheVariants.{Strips, Tiles, Jpeg}
use Rattle.exif_layout.specs.Offsets.{Written, value_of, offsets_from, blocks_offset, written, directory_len, after_value, after_values, after_blocks, even, tiff_offset, exif_offset, gps_offset, interop_offset, tiff_values, exif_values, gps_values, interop_values, strips_offset, tiles_offset, jpeg_offset, draft_end}
use Rattle.exif_layout.specs.Image.{entry_text, directory_text, directory_part, value_parts, block_parts, draft_parts}
use Rattle.exif_layout.specs.Refused.{is_unknown}
use Rattle.exif_layout.specs.Layout.{Spans}
use Rattle.exif_layout.proofs.Images.Words.{IsKnown, AllKnown}
use Rattle.exif_layout.proofs.Images.Standing.{length_spelled, spans_append}
use Rattle.exif_layout.proofs.Images.Values.{length-encode}

length-offsets_from : (offset : ℕ) (lengths : List ℕ) → length (offsets_from offset lengths) ≡ length lengths
length-offsets_from offset [] = refl
length-offsets_from offset (len ∷ lengths) = ap suc (length-offsets_from (offset + len) lengths)

-- once its offsets are settled, a value takes as many bytes as was counted before
pub length-value_of : (draft : Draft) (start : ℕ) (content : Content) → value_len (value_of draft start content) ≡ content_len content
length-value_of draft start (Known value) = refl
length-value_of draft start (OffsetsOf blocks lengths) = ap (λ n. 4 * n) (length-offsets_from (blocks_offset draft start blocks) lengths)
length-value_of draft start (LengthsOf blocks lengths) = refl
length-value_of draft start (OffsetOf context) = refl

-- a value of a known type is still of one once its offsets are settled
pub known_value : (draft : Draft) (start : ℕ) (content : Content) → IsKnown content → is_unknown (value_of draft start content) ≡ false
known_value draft start (Known value) h = h
known_value draft start (OffsetsOf blocks lengths) h = refl
known_value draft start (LengthsOf blocks lengths) h = refl
known_value draft start (OffsetOf context) h = refl

-- a directory has one written entry for each slot
pub length-written : (draft : Draft) (start at values : ℕ) (slots : List Slot) → length (written draft start at values slots) ≡ length slots
length-written draft start at values [] = refl
length-written draft start at values (slot ∷ slots) = ap suc (length-written draft start (at + 12) (after_value values (content_len slot.content)) slots)

-- the last 4 bytes of an entry
element_of : Order → Written → Bool → List ℕ
element_of order entry fits = if fits then encode order entry.value ++ replicate (4 - value_len entry.value) 0 else spelled order 4 entry.offset

length-element : (order : Order) (entry : Written) → is_unknown entry.value ≡ false → (fits : Bool) → nat_le (value_len entry.value) 4 ≡ fits → length (element_of order entry fits) ≡ 4
unfolding element_of
length-element order entry h true e =
    let fits = leb-true (value_len entry.value) 4 e in
    let gap : List ℕ = replicate (4 - value_len entry.value) 0 in
    let a = length-append (encode order entry.value) gap in
    let b = length-encode order entry.value h in
    let c : length gap ≡ 4 - value_len entry.value = length-replicate (4 - value_len entry.value) 0 in
    omega arith
length-element order entry h false e = length_spelled order 4 entry.offset

-- an entry of a known type takes 12 bytes
pub length-entry_text : (order : Order) (entry : Written) → is_unknown entry.value ≡ false → length (entry_text order entry) ≡ 12
unfolding element_of
length-entry_text order entry h =
    let x : List ℕ = element_of order entry (nat_le (value_len entry.value) 4) in
    let d : length x ≡ 4 = length-element order entry h (nat_le (value_len entry.value) 4) refl in
    let c = length-append (spelled order 4 (count_of entry.value)) x in
    let t = length-append (spelled order 2 (type_number entry.value)) (spelled order 4 (count_of entry.value) ++ x) in
    let g : length (entry_text order entry) ≡ length (spelled order 2 entry.tag) + length (spelled order 2 (type_number entry.value) ++ (spelled order 4 (count_of entry.value) ++ x)) =
    length-append (spelled order 2 entry.tag) (spelled order 2 (type_number entry.value) ++ (spelled order 4 (count_of entry.value) ++ x)) in
    let c1 = length_spelled order 4 (count_of entry.value) in
    let t1 = length_spelled order 2 (type_number entry.value) in
    let g1 = length_spelled order 2 entry.tag in
    omega arith

-- no written entry has a value of an unknown type
abbrev pub AllWrittenKnown : List Written → Type 0
AllWrittenKnown entries = AllByRecursion (λ entry. is_unknown entry.value ≡ false) entries

-- slots of known types are written as entries of known types
pub known_written : (draft : Draft) (start at values : ℕ) (slots : List Slot) → AllKnown slots → AllWrittenKnown (written draft start at values slots)
known_written draft start at values [] h = tt
known_written draft start at values (slot ∷ slots) h =
    (known_value draft start slot.content h.0, known_written draft start (at + 12) (after_value values (content_len slot.content)) slots h.1)

-- the entries of a directory, all of known types, take 12 bytes each
pub length-entry_texts : (order : Order) (entries : List Written) → AllWrittenKnown entries → length (flat_map (entry_text order) entries) ≡ 12 * length entries
length-entry_texts order [] h = omega arith
length-entry_texts order (entry ∷ entries) h =
    let a = length-append (entry_text order entry) (flat_map (entry_text order) entries) in
    let b = length-entry_text order entry h.0 in
    let c = length-entry_texts order entries h.1 in
    omega arith

length-directory_text : (order : Order) (next : ℕ) (entries : List Written) → AllWrittenKnown entries → length (directory_text order next entries) ≡ 6 + 12 * length entries
length-directory_text order next entries h =
    let a : length (directory_text order next entries) ≡ length (spelled order 2 (length entries)) + length (flat_map (entry_text order) entries ++ spelled order 4 next) =
    length-append (spelled order 2 (length entries)) (flat_map (entry_text order) entries ++ spelled order 4 next) in
    let b = length-append (flat_map (entry_text order) entries) (spelled order 4 next) in
    let c = length-entry_texts order entries h in
    let d = length_spelled order 2 (length entries) in
    let e = length_spelled order 4 next in
    omega arith

-- A directory begins where it may, if it has an entry, and ends as many bytes later as it has.
pub directory_spans : (order : Order) (draft : Draft) (start next from offset at values : ℕ) (slots : List Slot) → AllKnown slots
    → (0 < length slots) ⊎ (from ≡ offset) → from ≤ offset → offset ≤ from + 1
    → Spans from (directory_part order offset next (written draft start at values slots)) (offset + directory_len slots)
directory_spans order draft start next from offset at values [] h o low high =
    ⊎_elim (λ no. absurd (omega arith)) (λ e. omega arith) o
directory_spans order draft start next from offset at values (slot ∷ slots) h o low high =
    let entries : List Written = written draft start at values (slot ∷ slots) in
    let e : length entries ≡ suc (length slots) = length-written draft start at values (slot ∷ slots) in
    let l = length-directory_text order next entries (known_written draft start at values (slot ∷ slots) h) in
    (low, high, omega arith)

-- the offset where a value may be is even, at most one byte on
pub even_low : (n : ℕ) → n ≤ even n
even_low n = omega arith

-- the next even offset is at most one byte on
pub even_high : (n : ℕ) → even n ≤ n + 1
even_high n = omega arith

-- one more value, which fits into its entry or is at the next even offset
value_span : (order : Order) (draft : Draft) (start at values : ℕ) (slot : Slot) (slots : List Slot) → IsKnown slot.content
    → ((v : ℕ) → Spans v (value_parts order (written draft start (at + 12) v slots)) (after_values v slots))
    → (fits : Bool) → nat_le (content_len slot.content) 4 ≡ fits
    → Spans values (value_parts order (written draft start at values (slot ∷ slots))) (after_values values (slot ∷ slots))
value_span order draft start at values slot slots h more true e =
    let same : nat_le (value_len (value_of draft start slot.content)) 4 ≡ true = ap (λ n. nat_le n 4) (length-value_of draft start slot.content) ∙ e in
    rw (same, e) (more values)
value_span order draft start at values slot slots h more false e =
    let same : nat_le (value_len (value_of draft start slot.content)) 4 ≡ false = ap (λ n. nat_le n 4) (length-value_of draft start slot.content) ∙ e in
    let len : length (encode order (value_of draft start slot.content)) ≡ content_len slot.content =
    length-encode order (value_of draft start slot.content) (known_value draft start slot.content h) ∙ length-value_of draft start slot.content in
    rw (same, e) (even_low values, even_high values, rw len (more (even values + content_len slot.content)))

-- the values of a directory are side by side from their first offset to their end
pub values_span : (order : Order) (draft : Draft) (start at values : ℕ) (slots : List Slot) → AllKnown slots
    → Spans values (value_parts order (written draft start at values slots)) (after_values values slots)
values_span order draft start at values [] h = refl
values_span order draft start at values (slot ∷ slots) h =
    value_span order draft start at values slot slots h.0 (λ v. values_span order draft start (at + 12) v slots h.1) (nat_le (content_len slot.content) 4) refl

-- blocks are side by side from their first offset to their end
pub blocks_span : (offset : ℕ) (texts : List (List ℕ)) → Spans offset (block_parts offset texts) (after_blocks offset texts)
blocks_span offset [] = refl
blocks_span offset (text ∷ texts) = (omega arith, omega arith, blocks_span (offset + length text) texts)

-- a draft's parts go from where it starts to where it ends
pub draft_spans : (order : Order) (draft : Draft) (start next : ℕ) → 0 < length (draft.slots Tiff) → ((context : Context) → AllKnown (draft.slots context))
    → Spans start (draft_parts order draft start next) (draft_end draft start)
unfolding draft_parts tiff_offset exif_offset gps_offset interop_offset tiff_values exif_values gps_values interop_values strips_offset tiles_offset jpeg_offset draft_end
draft_spans order draft start next some h =
    spans_append _ (exif_offset draft start) _ _ _ (directory_spans order draft start next start (tiff_offset draft start) _ _ (draft.slots Tiff) (h Tiff) (inl some) (even_low start) (even_high start))
    (spans_append _ (gps_offset draft start) _ _ _ (directory_spans order draft start 0 _ (exif_offset draft start) _ _ (draft.slots Exif) (h Exif) (inr refl) (omega arith) (omega arith))
    (spans_append _ (interop_offset draft start) _ _ _ (directory_spans order draft start 0 _ (gps_offset draft start) _ _ (draft.slots Gps) (h Gps) (inr refl) (omega arith) (omega arith))
    (spans_append _ (tiff_values draft start) _ _ _ (directory_spans order draft start 0 _ (interop_offset draft start) _ _ (draft.slots Interop) (h Interop) (inr refl) (omega arith) (omega arith))
    (spans_append _ (exif_values draft start) _ _ _ (values_span order draft start _ (tiff_values draft start) (draft.slots Tiff) (h Tiff))
    (spans_append _ (gps_values draft start) _ _ _ (values_span order draft start _ (exif_values draft start) (draft.slots Exif) (h Exif))
    (spans_append _ (interop_values draft start) _ _ _ (values_span order draft start _ (gps_values draft start) (draft.slots Gps) (h Gps))
    (spans_append _ (strips_offset draft start) _ _ _ (values_span order draft start _ (interop_values draft start) (draft.slots Interop) (h Interop))
    (spans_append _ (tiles_offset draft start) _ _ _ (blocks_span (strips_offset draft start) (draft.blocks Strips))
    (spans_append _ (jpeg_offset draft start) _ _ _ (blocks_span (tiles_offset draft start) (draft.blocks Tiles))
    (blocks_span (jpeg_offset draft start) (draft.blocks Jpeg)))))))))))
