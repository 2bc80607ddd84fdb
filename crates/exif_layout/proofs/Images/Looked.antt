-- Where reading looks in a directory of an image: at the directory, at its values, and at its children.
use Rattle.std.proofs.Common.{◌≡◌, ℕ, ◌+◌, ◌*◌, ◌<◌, ◌^◌, List, [], ◌∷◌, ◌++◌, length, refl, sym, ap, ◌∙◌, arith, Bool, true, false, Some}
use Rattle.std.specs.Prelude.{if◌then◌else◌, nat_le, nat_lt}
use Rattle.std.specs.List.{AllByRecursion, flat_map}
use Rattle.std.proofs.lemmas.Bool.{le-leb, leb-true, leb-false, lt-ltb, le-ltb}
use Rattle.exif_base.specs.declared.endian.Order.{Order}
use Rattle.exif_base.specs.Bytes.{number_at, spaced}
use Rattle.exif_base.specs.Orders.{number_of}
use Rattle.exif_text.specs.FieldTypes.{type_of, known_length}
use Rattle.exif_table.specs.declared.context.Context.{Context}
use Rattle.exif_tiff.specs.Footprint.{Below, Stretch, entry_directories, pointed, value_stretch}
use Rattle.exif_tiff.specs.Trace.{child_of}
use Rattle.exif_layout.specs.Encoding.{encode, spelled, value_len, moved_to}
use Rattle.exif_layout.specs.Slots.{Draft, Slot, Content, Known, OffsetsOf, LengthsOf, OffsetOf, content_len}
use Rattle.exif_layout.specs.Offsets.{Written, value_of, written, after_value, directory_offset, even}
use Rattle.exif_layout.specs.Image.{entry_text, value_parts}
use Rattle.exif_layout.specs.Layout.{Stands}
use Rattle.exif_layout.proofs.Images.Words.{AllStand, ContentFits, Fits, SlotFits}
use Rattle.exif_layout.proofs.Images.Standing.{stands_left, stands_right, number_read}
use Rattle.exif_layout.proofs.Images.Offsets.{length-value_of, length-entry_text}
use Rattle.exif_layout.proofs.Images.Entries.{IsSpelled, entry_spelled, fits_known, value_at}
use Rattle.exif_layout.proofs.Images.Values.{length-encode}
use Rattle.exif_layout.proofs.Images.Directories.{value_outside, values_rest}

-- a value of some length that is outside of its entry, or nothing
abbrev pub outside_of : Bool → ℕ → ℕ → List Stretch
outside_of true offset len = []
outside_of false offset len = record { offset = offset; len = len } ∷ []

-- the values that are outside of entries, the first one from an offset on
abbrev pub value_stretches : ℕ → List Slot → List Stretch
value_stretches values [] = []
value_stretches values (slot ∷ slots) =
    outside_of (nat_le (content_len slot.content) 4) (even values) (content_len slot.content)
    ++ value_stretches (after_value values (content_len slot.content)) slots

-- the directories below an entry
abbrev pub below_content : Below → (Context → ℕ) → Content → List ℕ
below_content below offset (Known value) = []
below_content below offset (OffsetsOf kind lengths) = []
below_content below offset (LengthsOf kind lengths) = []
below_content below offset (OffsetOf child) = below child (offset child)

module _ (order : Order) (bytes : List ℕ) (small : length bytes < 256 ^ 4) where
  stretch_when : (entry : Written) (e : ℕ) → Fits entry.value → IsSpelled order bytes small entry e
      → (fits : Bool) → nat_le (value_len entry.value) 4 ≡ fits
      → (fits ≡ false → Stands bytes entry.offset (encode order entry.value))
      → value_stretch (number_of order) bytes e ≡ outside_of fits entry.offset (value_len entry.value)
  stretch_when entry e h is true fit outside =
      let size : known_length (type_of (number_at (number_of order) 2 bytes (e + 2))) * number_at (number_of order) 4 bytes (e + 4) ≡ value_len entry.value =
      (λ i. known_length (type_of (is.type i)) * is.count i) in
      let low = leb-true (value_len entry.value) 4 fit in
      let no : nat_lt 4 (known_length (type_of (number_at (number_of order) 2 bytes (e + 2))) * number_at (number_of order) 4 bytes (e + 4)) ≡ false =
      ap (λ n. nat_lt 4 n) size ∙ le-ltb 4 (value_len entry.value) low in
      rw no refl
  stretch_when entry e h is false fit outside =
      let size : known_length (type_of (number_at (number_of order) 2 bytes (e + 2))) * number_at (number_of order) 4 bytes (e + 4) ≡ value_len entry.value =
      (λ i. known_length (type_of (is.type i)) * is.count i) in
      let there = outside refl in
      let within = there.within in
      let len = length-encode order entry.value (fits_known entry.value h) in
      let high = leb-false (value_len entry.value) 4 fit in
      let element : Stands bytes (e + 8) (spelled order 4 entry.offset) = rw fit at is.element in
      let offset : number_at (number_of order) 4 bytes (e + 8) ≡ entry.offset = number_read order 4 entry.offset (e + 8) bytes (omega arith) element in
      let long : nat_lt 4 (known_length (type_of (number_at (number_of order) 2 bytes (e + 2))) * number_at (number_of order) 4 bytes (e + 4)) ≡ true =
      ap (λ n. nat_lt 4 n) size ∙ lt-ltb 4 (value_len entry.value) high in
      let enough : nat_le (number_at (number_of order) 4 bytes (e + 8) + known_length (type_of (number_at (number_of order) 2 bytes (e + 2))) * number_at (number_of order) 4 bytes (e + 4)) (length bytes) ≡ true =
      (λ i. nat_le (offset i + size i) (length bytes)) ∙ le-leb (entry.offset + value_len entry.value) (length bytes) (omega arith) in
      rw (long, enough) (λ i. record { offset = offset i; len = size i } ∷ [])

  -- what is looked at of entries: their values and the directories below them
  pub record Looks (below : Below) (offset : Context → ℕ) (context : Context) (at values : ℕ) (slots : List Slot) : Type 0 where
    pub stretches : flat_map (value_stretch (number_of order) bytes) (spaced at 12 (length slots)) ≡ value_stretches values slots
    pub children : flat_map (entry_directories below (number_of order) bytes context) (spaced at 12 (length slots))
        ≡ flat_map (λ (slot : Slot). below_content below offset slot.content) slots

  module _ (draft : Draft) (start : ℕ) (below : Below) where
    content_below : (context : Context) (tag offset : ℕ) (content : Content) → ContentFits draft context tag content
        → pointed below (child_of context tag) (Some (moved_to offset (value_of draft start content))) ≡ below_content below (directory_offset draft start) content
    content_below context tag offset (Known value) h = rw h.1 refl
    content_below context tag offset (OffsetsOf kind lengths) h = rw h.1 refl
    content_below context tag offset (LengthsOf kind lengths) h = rw h.1 refl
    content_below context tag offset (OffsetOf child) h = rw h.0 refl

    -- of entries in the data, reading looks at values outside of them and at the directories below
    pub entries_look : (context : Context) (at values : ℕ) (slots : List Slot) → AllByRecursion (SlotFits draft context) slots
        → AllByRecursion (λ slot. Fits (value_of draft start slot.content)) slots
        → Stands bytes at (flat_map (entry_text order) (written draft start at values slots))
        → AllStand bytes (value_parts order (written draft start at values slots))
        → Looks below (directory_offset draft start) context at values slots
    entries_look context at values [] fit good texts parts = record { stretches = refl; children = refl }
    entries_look context at values (slot ∷ slots) fit good texts parts =
        let len : ℕ = content_len slot.content in
        let entry : Written = record {
          tag = slot.tag;
          content = slot.content;
          value = value_of draft start slot.content;
          offset = if nat_le len 4 then at + 8 else even values;
        } in
        let rest : List Written = written draft start (at + 12) (after_value values len) slots in
        let same : value_len entry.value ≡ len = length-value_of draft start slot.content in
        let text : Stands bytes at (entry_text order entry) = stands_left bytes (entry_text order entry) (flat_map (entry_text order) rest) at texts in
        let twelve : length (entry_text order entry) ≡ 12 = length-entry_text order entry (fits_known entry.value good.0) in
        let more : Stands bytes (at + 12) (flat_map (entry_text order) rest) =
        stands_right bytes (entry_text order entry) (flat_map (entry_text order) rest) at (at + 12) texts (omega arith) in
        let inside : nat_le (value_len entry.value) 4 ≡ true → entry.offset ≡ at + 8 =
        λ e. let e' : nat_le len 4 ≡ true = ap (λ n. nat_le n 4) (sym same) ∙ e in rw e' refl in
        let outside = value_outside order bytes small draft start entry rest parts (nat_le (value_len entry.value) 4) refl in
        let is : IsSpelled order bytes small entry at = entry_spelled order bytes small entry at fit.0.tag good.0 text outside in
        let value = value_at order bytes small entry at good.0 is inside outside in
        let ih = entries_look context (at + 12) (after_value values len) slots fit.1 good.1 more
        (values_rest order bytes small draft start entry rest parts (nat_le (value_len entry.value) 4) refl) in
        let stretch : value_stretch (number_of order) bytes at ≡ outside_of (nat_le len 4) (even values) len =
        stretch_when entry at good.0 is (nat_le (value_len entry.value) 4) refl outside ∙ placed (nat_le len 4) refl same in
        let child : entry_directories below (number_of order) bytes context at ≡ below_content below (directory_offset draft start) slot.content =
        (λ i. pointed below (child_of context (is.tag i)) (value i)) ∙ content_below context slot.tag entry.offset slot.content fit.0.content in
        record {
          stretches = λ i. stretch i ++ ih.stretches i;
          children = λ i. child i ++ ih.children i;
        }
      where
        len : ℕ
        len = content_len slot.content

        placed : (fits : Bool) → nat_le len 4 ≡ fits → value_len (value_of draft start slot.content) ≡ len
            → outside_of (nat_le (value_len (value_of draft start slot.content)) 4) (if nat_le len 4 then at + 8 else even values) (value_len (value_of draft start slot.content))
            ≡ outside_of (nat_le len 4) (even values) len
        placed true e same = rw (same, e) refl
        placed false e same = rw (same, e) refl
