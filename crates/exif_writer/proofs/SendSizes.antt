-- Sizes of values.
use Rattle.std.proofs.Common.{◌≡◌, Some, ℕ, zero, suc, ◌+◌, ◌<◌, ◌≤◌, List, [], ◌∷◌, ◌++◌, length, take, drop, get_or, arith, refl, sym, ap, subst, ◌∙◌, append_assoc, false, true}
use Rattle.std.specs.Prelude.{if◌then◌else◌, nat_le, ◌-◌, replicate}
use Rattle.exif_writer.specs.declared.plan.Offsets.{Offsets}
use Rattle.exif_writer.specs.declared.plan.Slot.{Slot}
use Rattle.exif_layout.proofs.Images.Room.{count_within as value_within}
pub use Rattle.exif_layout.proofs.Moved.{encode_moved}
use Rattle.exif_writer.proofs.SendMembers.{around}
use Rattle.exif_writer.proofs.SendRunning.{state-append}
use Rattle.std.specs.List.{AllByRecursion}
use Rattle.exif_layout.specs.declared.content.Content.{Content}
use Rattle.exif_layout.specs.declared.content.Content.TheVariants.{Known, OneShort, OneLong, OffsetsOf, LengthsOf, OffsetOf}
use Rattle.exif_writer.specs.Sending.{slot_text, slots_text, entries_text, after_slot, values_end, element, settled, value_text}
use Rattle.exif_layout.specs.EntryContents.{content_count, content_size, content_type, IsKnownContent}
use Rattle.std.proofs.lemmas.Bool.{le-leb, lt-leb}
use Rattle.exif_base.specs.declared.endian.Order.{Order}
use Rattle.exif_layout.specs.Encoding.{spelled, encode}
use Rattle.exif_types.specs.ValueTypes.{type_number, field_type_of}
use Rattle.exif_text.specs.declared.field_type.FieldType.{FieldType}
use Rattle.exif_text.specs.declared.field_type.FieldType.TheVariants as field_type
use Rattle.exif_types.specs.declared.value.Value.{Value}
use Rattle.exif_types.specs.declared.value.Value.TheVariants.{Byte, Ascii, Short, Long, Rational, SByte, Undefined, SShort, SLong, SRational, Float, Double, Unknown}
use Rattle.exif_text.specs.FieldTypes.{unit, unit_length}
use Rattle.exif_layout.specs.Offsets.{even}

-- a known type and its unit
pub known_unit : (value : Value) (type : FieldType) → field_type_of value ≡ Some type → unit (type_number value) ≡ unit_length type
known_unit (Byte xs) type h = let e : field_type.Byte ≡ type = cc in ap unit_length e
known_unit (Ascii xs) type h = let e : field_type.Ascii ≡ type = cc in ap unit_length e
known_unit (Short xs) type h = let e : field_type.Short ≡ type = cc in ap unit_length e
known_unit (Long xs) type h = let e : field_type.Long ≡ type = cc in ap unit_length e
known_unit (Rational xs) type h = let e : field_type.Rational ≡ type = cc in ap unit_length e
known_unit (SByte xs) type h = let e : field_type.SByte ≡ type = cc in ap unit_length e
known_unit (Undefined xs old) type h = let e : field_type.Undefined ≡ type = cc in ap unit_length e
known_unit (SShort xs) type h = let e : field_type.SShort ≡ type = cc in ap unit_length e
known_unit (SLong xs) type h = let e : field_type.SLong ≡ type = cc in ap unit_length e
known_unit (SRational xs) type h = let e : field_type.SRational ≡ type = cc in ap unit_length e
known_unit (Float xs) type h = let e : field_type.Float ≡ type = cc in ap unit_length e
known_unit (Double xs) type h = let e : field_type.Double ≡ type = cc in ap unit_length e
known_unit (Unknown type count old) other h = absurd cc

-- a value of a known type has no more members than bytes
pub count_within : (content : Content) → IsKnownContent content → content_count content ≤ content_size content
count_within (Known value) h = value_within value h
count_within (OneShort x) h = omega arith
count_within (OneLong x) h = omega arith
count_within (OffsetsOf blocks texts) h = omega arith
count_within (LengthsOf kind texts) h = omega arith
count_within (OffsetOf context) h = omega arith

-- a directory that has entries
pub slots_text_some : (order : Order) (offsets : Offsets) (next : ℕ) (slots : List Slot) → 0 < length slots
    → slots_text order offsets next slots ≡ spelled order 2 (length slots) ++ (entries_text order offsets slots ++ spelled order 4 next)
slots_text_some order offsets next [] h = absurd (omega arith)
slots_text_some order offsets next (slot ∷ slots) h = refl

-- what holds of all holds of one
pub all_at : {X : Type 0} (P : X → Type 0) (xs : List X) (i : ℕ) (x d : X) → AllByRecursion P xs → i < length xs → x ≡ get_or xs i d → P x
all_at P [] i x d a h e = absurd (omega arith)
all_at P (y ∷ xs) zero x d a h e = subst P (sym e) a.0
all_at P (y ∷ xs) (suc i) x d a h e = all_at P xs i x d a.1 (omega arith) e

-- offsets only grow
pub slot_low : (offset : ℕ) (slot : Slot) → offset ≤ after_slot offset slot
slot_low offset slot = elim (nat_le (content_size slot.content) 4) as (λ b. offset ≤ (if b then offset else even offset + content_size slot.content)) [ true ↦ omega arith | false ↦ omega arith ]

-- the values of slots end no lower than they begin
pub slots_low : (offset : ℕ) (slots : List Slot) → offset ≤ values_end offset slots
slots_low offset [] = omega arith
slots_low offset (slot ∷ slots) = let a = slot_low offset slot in let b = slots_low (after_slot offset slot) slots in omega arith

-- the end of a slot's value isn't behind that of all
pub slot_within : (values offset : ℕ) (slots : List Slot) (i : ℕ) (x d : Slot) → i < length slots → x ≡ get_or slots i d → offset ≡ values_end values (take i slots)
    → after_slot offset x ≤ values_end values slots
slot_within values offset slots i x d h e k =
    let split : values_end values slots ≡ values_end (after_slot (values_end values (take i slots)) x) (drop (i + 1) slots) =
    ap (values_end values) (around slots i x d h e) ∙ state-append after_slot values (take i slots) (x ∷ drop (i + 1) slots) in
    let low = slots_low (after_slot (values_end values (take i slots)) x) (drop (i + 1) slots) in
    let same : after_slot offset x ≡ after_slot (values_end values (take i slots)) x = ap (λ p. after_slot p x) k in
    omega arith

-- a value that is in its entry
pub element_inside : (order : Order) (offsets : Offsets) (slot : Slot) → slot.size ≤ 4
    → element order offsets slot ≡ encode order (settled offsets slot.content) ++ replicate (4 - slot.size) 0
element_inside order offsets slot h = rw (le-leb slot.size 4 h) refl

-- a value that doesn't
pub value_outside : (order : Order) (offsets : Offsets) (slot : Slot) → 4 < slot.size
    → value_text order offsets slot ≡ replicate (if slot.padded then 1 else 0) 0 ++ encode order (settled offsets slot.content)
value_outside order offsets slot h = rw (lt-leb slot.size 4 h) refl

-- an entry is its head and its element
pub slot_text_behind : (order : Order) (offsets : Offsets) (slot : Slot) → slot_text order offsets slot
    ≡ (spelled order 2 slot.tag ++ (spelled order 2 (content_type slot.content) ++ spelled order 4 (content_count slot.content))) ++ element order offsets slot
slot_text_behind order offsets slot =
    let tag = spelled order 2 slot.tag in
    let kind = spelled order 2 (content_type slot.content) in
    let count = spelled order 4 (content_count slot.content) in
    let last = element order offsets slot in
    sym (append_assoc tag (kind ++ count) last ∙ ap (λ t. tag ++ t) (append_assoc kind count last))
