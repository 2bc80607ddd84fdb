-- What is sent of a plan is what its parts lay down.
use Rattle.std.proofs.Common.{◌≡◌, ℕ, ◌+◌, ◌-◌, ◌*◌, ◌%◌, ◌<◌, List, [], ◌∷◌, ◌++◌, length, map, replicate, refl, sym, ap, subst, ◌∙◌, arith, append_assoc, Bool, true, false, inl, inr}
use Rattle.std.specs.Prelude.{if◌then◌else◌, nat_le}
use Rattle.std.proofs.lemmas.List.{append-nil, length-map}
use denote.Ref.{Bor}
use Rattle.std.specs.List.{AllByRecursion, flat_map}
use Rattle.exif_layout.specs.Slots as format
use Rattle.exif_layout.proofs.Images.Values.{length-encode}
use Rattle.exif_layout.proofs.Images.Offsets.{length-value_of, known_value, length-written, directory_spans, values_span, blocks_span, even_low, even_high, draft_spans}
use Rattle.exif_writer.specs.declared.plan.Offsets.{Offsets}
use Rattle.exif_writer.specs.declared.plan.Slot.{Slot}
use Rattle.exif_writer.specs.declared.plan.Plan.{Plan}
use Rattle.exif_layout.specs.declared.content.Content.{Content}
use Rattle.exif_layout.specs.declared.content.Content.TheVariants.{Known, OneShort, OneLong, OffsetsOf, LengthsOf, OffsetOf}
use Rattle.exif_writer.specs.Sending.{block_offset, context_offset, settled, symbol, slot_text, after_slot, IsSettled, AreSettled, entries_text, slots_text, values_text, blocks_text}
use Rattle.exif_layout.specs.EntryContents.{lens, symbol_of, content_type, content_count, content_size}
use Rattle.exif_layout.specs.Views.{blocks_of}
use Rattle.exif_writer.specs.Plans.{plan_text, plans_text, sent_image}
use Rattle.exif_writer.specs.Drafts.{offsets_of, IsPlan, IsSettledPlan, ArePlans}
use Rattle.exif_writer.proofs.PlanSettling.{zeros_before}
use Rattle.exif_layout.proofs.Images.Laid.{joined, length_header}
use Rattle.exif_layout.proofs.Moved.{same_moved}
use Rattle.exif_writer.proofs.BlockSums.{offsets_length, lens_length}
use Rattle.exif_base.specs.declared.endian.Order.{Order}
use Rattle.exif_layout.specs.declared.block_kind.BlockKind.{BlockKind}
use Rattle.exif_layout.specs.declared.block_kind.BlockKind.TheVariants.{Strips, Tiles, Jpeg}
use Rattle.exif_table.specs.declared.context.Context.{Context}
use Rattle.exif_table.specs.declared.context.Context.TheVariants.{Tiff, Exif, Gps, Interop}
use Rattle.exif_layout.specs.Groups.{Group}
use Rattle.exif_layout.specs.Encoding.{spelled, encode, value_len}
use Rattle.exif_types.specs.ValueTypes.{type_number, count_of}
use Rattle.exif_types.specs.declared.value.Value.{Value}
use Rattle.exif_types.specs.declared.value.Value.TheVariants.{Long}
use Rattle.exif_text.specs.FieldTypes.{unit}
use Rattle.exif_layout.specs.Slots.{Draft, content_len, draft_of}
use Rattle.exif_layout.specs.Image.{laid, block_parts, value_parts, directory_part, entry_text, draft_parts, parts_from, header_text, image}
use Rattle.exif_layout.specs.Offsets.{written, even, after_value, value_of, blocks_offset, directory_offset, offsets_from, entries_of, tiff_offset, exif_offset, gps_offset, interop_offset, tiff_values, exif_values, gps_values, interop_values, strips_offset, tiles_offset, jpeg_offset, draft_end, next_offset}
use Rattle.exif_layout.proofs.Images.Words.{IsKnown, AllKnown}

-- blocks
pub laid_blocks : (offset : ℕ) (texts : List (Bor (List ℕ))) → laid offset (block_parts offset (blocks_of texts)) ≡ blocks_text texts
laid_blocks offset [] = refl
laid_blocks offset (t ∷ texts) =
    let none : offset - offset ≡ 0 = omega arith in
    (λ i. replicate (none i) 0 ++ (t.now ++ laid (offset + length t.now) (block_parts (offset + length t.now) (blocks_of texts))))
    ∙ ap (λ r. t.now ++ r) (laid_blocks (offset + length t.now) texts)

-- the offsets of a plan are those of a draft
pub record AreOffsets (draft : Draft) (start : ℕ) (offsets : Offsets) : Type 0 where
  pub block : (blocks : BlockKind) → block_offset offsets blocks ≡ blocks_offset draft start blocks
  pub context : (context : Context) → context_offset offsets context ≡ directory_offset draft start context

settled_is : (draft : Draft) (start : ℕ) (offsets : Offsets) → AreOffsets draft start offsets → (content : Content) → settled offsets content ≡ value_of draft start (symbol_of content)
settled_is draft start offsets h (Known value) = refl
settled_is draft start offsets h (OneShort x) = refl
settled_is draft start offsets h (OneLong x) = refl
settled_is draft start offsets h (OffsetsOf blocks texts) = ap (λ p. Long (offsets_from p (lens texts.now))) (h.block blocks)
settled_is draft start offsets h (LengthsOf kind texts) = refl
settled_is draft start offsets h (OffsetOf context) = ap (λ p. Long (p ∷ [])) (h.context context)

-- what is known of a settled value without its offsets
record Measures (offsets : Offsets) (content : Content) : Type 0 where
  type : type_number (settled offsets content) ≡ content_type content
  count : count_of (settled offsets content) ≡ content_count content

measures : (offsets : Offsets) (content : Content) → Measures offsets content
measures offsets (Known value) = let s = same_moved value 0 in record { type = s.type; count = s.count }
measures offsets (OneShort x) = record { type = refl; count = refl }
measures offsets (OneLong x) = record { type = refl; count = refl }
measures offsets (OffsetsOf blocks texts) = record { type = refl; count = offsets_length (block_offset offsets blocks) texts.now }
measures offsets (LengthsOf kind texts) = record { type = refl; count = lens_length texts.now }
measures offsets (OffsetOf context) = record { type = refl; count = refl }

-- a value is as long in the program as it is in the words of images
pub size_is : (content : Content) → content_len (symbol_of content) ≡ content_size content
size_is (Known value) = (same_moved value 0).len
size_is (OneShort x) = refl
size_is (OneLong x) = refl
size_is (OffsetsOf blocks texts) = ap (λ n. 4 * n) (lens_length texts.now)
size_is (LengthsOf kind texts) = ap (λ n. 4 * n) (lens_length texts.now)
size_is (OffsetOf context) = refl

len_is : (offsets : Offsets) (content : Content) → value_len (settled offsets content) ≡ content_size content
len_is offsets content = let m = measures offsets content in λ i. unit (m.type i) * m.count i

-- an entry's text, where its value is at its offset if it isn't in the entry
entry_is : (order : Order) (offsets : Offsets) (slot : Slot) (value : Value) (content : format.Content) (other : ℕ) → settled offsets slot.content ≡ value
    → slot.size ≡ content_size slot.content → (nat_le (content_size slot.content) 4 ≡ false → slot.offset ≡ other)
    → slot_text order offsets slot ≡ entry_text order (record { tag = slot.tag; content = content; value = value; offset = other })
entry_is order offsets slot value content other e size same =
    let m = measures offsets slot.content in
    let front : (x : List ℕ) → spelled order 2 slot.tag ++ (spelled order 2 (content_type slot.content) ++ (spelled order 4 (content_count slot.content) ++ x))
    ≡ spelled order 2 slot.tag ++ (spelled order 2 (type_number value) ++ (spelled order 4 (count_of value) ++ x)) =
    λ x i. spelled order 2 slot.tag ++ (spelled order 2 ((sym m.type ∙ ap type_number e) i) ++ (spelled order 4 ((sym m.count ∙ ap count_of e) i) ++ x)) in
    front _ ∙ ap (λ x. spelled order 2 slot.tag ++ (spelled order 2 (type_number value) ++ (spelled order 4 (count_of value) ++ x)))
    (ap (λ n. if nat_le n 4 then encode order (settled offsets slot.content) ++ replicate (4 - n) 0 else spelled order 4 slot.offset) size
    ∙ last (nat_le (content_size slot.content) 4) refl)
  where
    last : (b : Bool) → nat_le (content_size slot.content) 4 ≡ b
        → (if nat_le (content_size slot.content) 4 then encode order (settled offsets slot.content) ++ replicate (4 - content_size slot.content) 0 else spelled order 4 slot.offset)
        ≡ (if nat_le (value_len value) 4 then encode order value ++ replicate (4 - value_len value) 0 else spelled order 4 other)
    last true h =
        let k : value_len value ≡ content_size slot.content = ap value_len (sym e) ∙ len_is offsets slot.content in
        let t : nat_le (value_len value) 4 ≡ true = ap (λ n. nat_le n 4) k ∙ h in
        rw (h, t) (λ i. encode order (e i) ++ replicate (4 - (sym k) i) 0)
    last false h =
        let k : value_len value ≡ content_size slot.content = ap value_len (sym e) ∙ len_is offsets slot.content in
        let t : nat_le (value_len value) 4 ≡ false = ap (λ n. nat_le n 4) k ∙ h in
        rw (h, t) (ap (spelled order 4) (same h))

-- slots behind one, settled as images measure
settled_behind : (start : ℕ) (slot : Slot) (slots : List Slot) → AreSettled (after_slot start slot) slots → AreSettled (after_value start (content_len (symbol_of slot.content))) slots
settled_behind start slot slots h = let P : ℕ → Type 0 = λ n. AreSettled (after_value start n) slots in subst P (sym (size_is slot.content)) h

-- the entries of a directory
pub entries_are : (order : Order) (draft : Draft) (start : ℕ) (offsets : Offsets) → AreOffsets draft start offsets → (at values : ℕ) (slots : List Slot) → AreSettled values slots
    → entries_text order offsets slots ≡ flat_map (entry_text order) (written draft start at values (map symbol slots))
entries_are order draft start offsets h at values [] s = refl
entries_are order draft start offsets h at values (slot ∷ slots) s =
    let size = size_is slot.content in
    let head : slot_text order offsets slot
    ≡ entry_text order (record { tag = slot.tag; content = symbol_of slot.content; value = value_of draft start (symbol_of slot.content); offset = if nat_le (content_len (symbol_of slot.content)) 4 then at + 8 else even values }) =
    entry_is order offsets slot (value_of draft start (symbol_of slot.content)) (symbol_of slot.content) _ (settled_is draft start offsets h slot.content)
    s.0.size (λ (big : nat_le (content_size slot.content) 4 ≡ false). rw (size, big) (s.0.offset big)) in
    λ i. head i ++ entries_are order draft start offsets h (at + 12) (after_value values (content_len (symbol_of slot.content))) slots (settled_behind values slot slots s.1) i

-- one value of a directory, and what comes behind it
value_laid : (order : Order) (draft : Draft) (start : ℕ) (offsets : Offsets) → AreOffsets draft start offsets → (at values : ℕ) (slot : Slot) (slots : List Slot)
    → IsKnown (symbol_of slot.content) → IsSettled values slot
    → laid (after_slot values slot) (value_parts order (written draft start (at + 12) (after_slot values slot) (map symbol slots))) ≡ values_text order offsets slots
    → (fits : Bool) → nat_le (content_size slot.content) 4 ≡ fits
    → laid values (value_parts order (written draft start at values (map symbol (slot ∷ slots)))) ≡ values_text order offsets (slot ∷ slots)
value_laid order draft start offsets h at values slot slots k s more true e =
    let size = size_is slot.content in
    let same : nat_le (value_len (value_of draft start (symbol_of slot.content))) 4 ≡ true = ap (λ n. nat_le n 4) (length-value_of draft start (symbol_of slot.content) ∙ size) ∙ e in
    let inside : nat_le slot.size 4 ≡ true = ap (λ n. nat_le n 4) s.size ∙ e in
    rw (same, size, e, inside) (rw e at more)
value_laid order draft start offsets h at values slot slots k s more false e =
    let size = size_is slot.content in
    let value : Value = value_of draft start (symbol_of slot.content) in
    let same : nat_le (value_len value) 4 ≡ false = ap (λ n. nat_le n 4) (length-value_of draft start (symbol_of slot.content) ∙ size) ∙ e in
    let outside : nat_le slot.size 4 ≡ false = ap (λ n. nat_le n 4) s.size ∙ e in
    let len : length (encode order value) ≡ content_size slot.content =
    length-encode order value (known_value draft start (symbol_of slot.content) k) ∙ length-value_of draft start (symbol_of slot.content) ∙ size in
    let text : encode order value ≡ encode order (settled offsets slot.content) = ap (encode order) (sym (settled_is draft start offsets h slot.content)) in
    let gap : even values - values ≡ (if slot.padded then 1 else 0) =
    (let twos : even values - values ≡ values % 2 = omega arith in twos ∙ zeros_before values ∙ sym (ap (λ b. if b then 1 else 0) (s.padded e))) in
    let next : even values + length (encode order value) ≡ even values + content_size slot.content = ap (λ n. even values + n) len in
    rw (same, size, e, outside) (
    (λ i. replicate (gap i) 0 ++ (text i ++ laid (next i) (value_parts order (written draft start (at + 12) (even values + content_size slot.content) (map symbol slots)))))
    ∙ ap (λ r. replicate (if slot.padded then 1 else 0) 0 ++ (encode order (settled offsets slot.content) ++ r)) (rw e at more)
    ∙ sym (append_assoc (replicate (if slot.padded then 1 else 0) 0) (encode order (settled offsets slot.content)) (values_text order offsets slots)))

-- values of known types in settled slots, laid at their offsets, are what is sent of them
pub values_are : (order : Order) (draft : Draft) (start : ℕ) (offsets : Offsets) → AreOffsets draft start offsets → (at values : ℕ) (slots : List Slot) → AllKnown (map symbol slots) → AreSettled values slots
    → laid values (value_parts order (written draft start at values (map symbol slots))) ≡ values_text order offsets slots
values_are order draft start offsets h at values [] k s = refl
values_are order draft start offsets h at values (slot ∷ slots) k s =
    value_laid order draft start offsets h at values slot slots k.0 s.0 (values_are order draft start offsets h (at + 12) (after_slot values slot) slots k.1 s.1)
    (nat_le (content_size slot.content) 4) refl

-- a directory, behind zeros where it needs them
pub directory_is : (order : Order) (draft : Draft) (start : ℕ) (offsets : Offsets) → AreOffsets draft start offsets → (from offset at values next : ℕ) (slots : List Slot) → AreSettled values slots
    → 0 < length slots → laid from (directory_part order offset next (written draft start at values (map symbol slots))) ≡ replicate (offset - from) 0 ++ slots_text order offsets next slots
directory_is order draft start offsets h from offset at values next [] s some = absurd (omega arith)
directory_is order draft start offsets h from offset at values next (slot ∷ slots) s some =
    let count : length (written draft start at values (map symbol (slot ∷ slots))) ≡ length (slot ∷ slots) =
    length-written draft start at values (map symbol (slot ∷ slots)) ∙ length-map (slot ∷ slots) symbol in
    ap (λ r. replicate (offset - from) 0 ++ r) (append-nil _)
    ∙ (λ i. replicate (offset - from) 0 ++ (spelled order 2 (count i) ++ ((sym (entries_are order draft start offsets h at values (slot ∷ slots) s)) i ++ spelled order 4 next)))

-- a directory that names no next one, laid from its offset on, is what is sent of it, even empty
pub child_is : (order : Order) (draft : Draft) (start : ℕ) (offsets : Offsets) → AreOffsets draft start offsets → (offset at values : ℕ) (slots : List Slot) → AreSettled values slots
    → laid offset (directory_part order offset 0 (written draft start at values (map symbol slots))) ≡ slots_text order offsets 0 slots
child_is order draft start offsets h offset at values [] s = refl
child_is order draft start offsets h offset at values (slot ∷ slots) s =
    let none : offset - offset ≡ 0 = omega arith in
    directory_is order draft start offsets h offset offset at values 0 (slot ∷ slots) s (omega arith)
    ∙ (λ i. replicate (none i) 0 ++ slots_text order offsets 0 (slot ∷ slots))

-- the offsets that a plan is made of are those of its draft
pub are_offsets : (draft : Draft) (start next : ℕ) → AreOffsets draft start (offsets_of draft start next)
are_offsets draft start next = record {
  block = λ blocks. elim blocks as (λ b. block_offset (offsets_of draft start next) b ≡ blocks_offset draft start b) [ Strips ↦ refl | Tiles ↦ refl | Jpeg ↦ refl ];
  context = λ context. elim context as (λ c. context_offset (offsets_of draft start next) c ≡ directory_offset draft start c) [ Tiff ↦ refl | Exif ↦ refl | Gps ↦ refl | Interop ↦ refl ];
}

regroup : (p a b c d e f g h x y z : List ℕ) → (p ++ a) ++ (b ++ (c ++ (d ++ (e ++ (f ++ (g ++ (h ++ (x ++ (y ++ z)))))))))
    ≡ (p ++ (a ++ (b ++ (c ++ d)))) ++ ((e ++ (f ++ (g ++ h))) ++ (x ++ (y ++ z)))
regroup p a b c d e f g h x y z = simp append_assoc

module _ (order : Order) (draft : Draft) (start next : ℕ) (plan : Plan) (whole : IsSettledPlan draft start next plan) where
  is : IsPlan draft start next plan
  is = whole.is

  are : AreOffsets draft start plan.offsets
  are = let P : Offsets → Type 0 = AreOffsets draft start in subst P (sym is.offsets) (are_offsets draft start next)

  -- a child's directory, at the offset and with the values of the draft
  child_laid : (offset at values from : ℕ) (slots : List Slot) (symbols : List format.Slot) → map symbol slots ≡ symbols → AreSettled values slots → values ≡ from
      → laid offset (directory_part order offset 0 (written draft start at from symbols)) ≡ slots_text order plan.offsets 0 slots
  child_laid offset at values from slots symbols e s k =
      let P : ℕ → Type 0 = λ n. AreSettled n slots in
      (λ i. laid offset (directory_part order offset 0 (written draft start at from ((sym e) i))))
      ∙ child_is order draft start plan.offsets are offset at from slots (subst P k s)

  values_laid : (at values from : ℕ) (slots : List Slot) (symbols : List format.Slot) → map symbol slots ≡ symbols → AreSettled values slots → values ≡ from → AllKnown symbols
      → laid from (value_parts order (written draft start at from symbols)) ≡ values_text order plan.offsets slots
  values_laid at values from slots symbols e s k known =
      let P : ℕ → Type 0 = λ n. AreSettled n slots in
      (λ i. laid from (value_parts order (written draft start at from ((sym e) i))))
      ∙ values_are order draft start plan.offsets are at from slots (let P : List format.Slot → Type 0 = AllKnown in subst P (sym e) known) (subst P k s)

  blocks_laid : (offset : ℕ) (texts : List (Bor (List ℕ))) (held : List (List ℕ)) → blocks_of texts ≡ held → laid offset (block_parts offset held) ≡ blocks_text texts
  blocks_laid offset texts held e = (λ i. laid offset (block_parts offset ((sym e) i))) ∙ laid_blocks offset texts

  tiff_laid : 0 < length (draft.slots Tiff)
      → laid start (directory_part order (tiff_offset draft start) next (entries_of draft start Tiff))
      ≡ replicate (plan.offsets.start % 2) 0 ++ slots_text order plan.offsets plan.offsets.next plan.tiff.items
  unfolding tiff_offset
  tiff_laid some =
      let at : ℕ = tiff_offset draft start + 2 in
      let from : ℕ = tiff_values draft start in
      let P : ℕ → Type 0 = λ n. AreSettled n plan.tiff.items in
      let more : 0 < length plan.tiff.items = (let a = ap length is.tiff in let b = length-map plan.tiff.items symbol in omega arith) in
      let gap : even start - start ≡ start % 2 = omega arith in
      (λ i. laid start (directory_part order (tiff_offset draft start) next (written draft start at from ((sym is.tiff) i))))
      ∙ directory_is order draft start plan.offsets are start (tiff_offset draft start) at from next plan.tiff.items (subst P (λ i. ((is.offsets) i).tiff_values) whole.tiff) more
      ∙ (λ i. replicate (gap i) 0 ++ slots_text order plan.offsets next plan.tiff.items)
      ∙ (λ i. replicate (((sym is.offsets) i).start % 2) 0 ++ slots_text order plan.offsets ((sym is.offsets) i).next plan.tiff.items)

  -- what is sent of the plan is what the draft's parts lay down
  pub plan_is : 0 < length (draft.slots Tiff) → ((context : Context) → AllKnown (draft.slots context)) → laid start (draft_parts order draft start next) ≡ plan_text order plan
  unfolding draft_parts tiff_offset exif_offset gps_offset interop_offset tiff_values exif_values gps_values interop_values strips_offset tiles_offset jpeg_offset draft_end
  plan_is some known =
      joined start (exif_offset draft start) _ _ _ _
      (directory_spans order draft start next start (tiff_offset draft start) _ _ (draft.slots Tiff) (known Tiff) (inl some) (even_low start) (even_high start)) (tiff_laid some)
      (joined (exif_offset draft start) (gps_offset draft start) _ _ _ _
      (directory_spans order draft start 0 _ (exif_offset draft start) _ _ (draft.slots Exif) (known Exif) (inr refl) (omega arith) (omega arith))
      (child_laid (exif_offset draft start) _ _ (exif_values draft start) plan.exif.items (draft.slots Exif) is.exif whole.exif (λ i. ((is.offsets) i).exif_values))
      (joined (gps_offset draft start) (interop_offset draft start) _ _ _ _
      (directory_spans order draft start 0 _ (gps_offset draft start) _ _ (draft.slots Gps) (known Gps) (inr refl) (omega arith) (omega arith))
      (child_laid (gps_offset draft start) _ _ (gps_values draft start) plan.gps.items (draft.slots Gps) is.gps whole.gps (λ i. ((is.offsets) i).gps_values))
      (joined (interop_offset draft start) (tiff_values draft start) _ _ _ _
      (directory_spans order draft start 0 _ (interop_offset draft start) _ _ (draft.slots Interop) (known Interop) (inr refl) (omega arith) (omega arith))
      (child_laid (interop_offset draft start) _ _ (interop_values draft start) plan.interop.items (draft.slots Interop) is.interop whole.interop (λ i. ((is.offsets) i).interop_values))
      (joined (tiff_values draft start) (exif_values draft start) _ _ _ _
      (values_span order draft start _ (tiff_values draft start) (draft.slots Tiff) (known Tiff))
      (values_laid _ _ (tiff_values draft start) plan.tiff.items (draft.slots Tiff) is.tiff whole.tiff (λ i. ((is.offsets) i).tiff_values) (known Tiff))
      (joined (exif_values draft start) (gps_values draft start) _ _ _ _
      (values_span order draft start _ (exif_values draft start) (draft.slots Exif) (known Exif))
      (values_laid _ _ (exif_values draft start) plan.exif.items (draft.slots Exif) is.exif whole.exif (λ i. ((is.offsets) i).exif_values) (known Exif))
      (joined (gps_values draft start) (interop_values draft start) _ _ _ _
      (values_span order draft start _ (gps_values draft start) (draft.slots Gps) (known Gps))
      (values_laid _ _ (gps_values draft start) plan.gps.items (draft.slots Gps) is.gps whole.gps (λ i. ((is.offsets) i).gps_values) (known Gps))
      (joined (interop_values draft start) (strips_offset draft start) _ _ _ _
      (values_span order draft start _ (interop_values draft start) (draft.slots Interop) (known Interop))
      (values_laid _ _ (interop_values draft start) plan.interop.items (draft.slots Interop) is.interop whole.interop (λ i. ((is.offsets) i).interop_values) (known Interop))
      (joined (strips_offset draft start) (tiles_offset draft start) _ _ _ _
      (blocks_span (strips_offset draft start) (draft.blocks Strips)) (blocks_laid (strips_offset draft start) plan.strips.now (draft.blocks Strips) is.strips)
      (joined (tiles_offset draft start) (jpeg_offset draft start) _ _ _ _
      (blocks_span (tiles_offset draft start) (draft.blocks Tiles)) (blocks_laid (tiles_offset draft start) plan.tiles.now (draft.blocks Tiles) is.tiles)
      (blocks_laid (jpeg_offset draft start) plan.jpeg.now (draft.blocks Jpeg) is.jpeg))))))))))
      ∙ regroup (replicate (plan.offsets.start % 2) 0)
      (slots_text order plan.offsets plan.offsets.next plan.tiff.items)
      (slots_text order plan.offsets 0 plan.exif.items)
      (slots_text order plan.offsets 0 plan.gps.items)
      (slots_text order plan.offsets 0 plan.interop.items)
      (values_text order plan.offsets plan.tiff.items)
      (values_text order plan.offsets plan.exif.items)
      (values_text order plan.offsets plan.gps.items)
      (values_text order plan.offsets plan.interop.items)
      (blocks_text plan.strips.now)
      (blocks_text plan.tiles.now)
      (blocks_text plan.jpeg.now)

-- a draft that can be sent
pub record IsSendable (draft : Draft) : Type 0 where
  pub some : 0 < length (draft.slots Tiff)
  pub known : (context : Context) → AllKnown (draft.slots context)

-- the parts of drafts that can be sent, laid from an offset on, are what is sent of their plans
pub parts_are : (order : Order) (start : ℕ) (drafts : List Draft) (plans : List Plan) → AllByRecursion IsSendable drafts → ArePlans start drafts plans
    → laid start (parts_from order start drafts) ≡ plans_text order plans
parts_are order start [] [] s h = refl
parts_are order start [] (plan ∷ plans) s h = absurd h
parts_are order start (draft ∷ drafts) [] s h = absurd h
parts_are order start (draft ∷ drafts) (plan ∷ plans) s h =
    let next : ℕ = next_offset (draft_end draft start) drafts in
    joined start (draft_end draft start) (draft_parts order draft start next) (parts_from order (draft_end draft start) drafts) (plan_text order plan) (plans_text order plans)
    (draft_spans order draft start next (s.0).some (s.0).known)
    (plan_is order draft start next plan h.0 (s.0).some (s.0).known)
    (parts_are order (draft_end draft start) drafts plans s.1 h.1)

-- what is sent of the plans of groups is their image
pub image_is : (order : Order) (groups : List Group) (plans : List Plan) → AllByRecursion IsSendable (map draft_of groups) → ArePlans 8 (map draft_of groups) plans
    → image order groups ≡ sent_image order plans
unfolding image
image_is order groups plans s h =
    let len : 0 + length (header_text order) ≡ 8 = (let h = length_header order in omega arith) in
    (λ i. header_text order ++ laid (len i) (parts_from order 8 (map draft_of groups)))
    ∙ ap (λ r. header_text order ++ r) (parts_are order 8 (map draft_of groups) plans s h)
