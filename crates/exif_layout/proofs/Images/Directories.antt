-- A directory whose bytes are in the data, with its values where it says, is read as its fields.
use Rattle.std.proofs.Common.{◌≡◌, ℕ, ◌+◌, ◌-◌, ◌*◌, ◌/◌, ◌<◌, ◌≤◌, ◌^◌, List, [], ◌∷◌, ◌++◌, length, refl, sym, ap, ◌∙◌, arith, Bool, true, false, Some, Result, Ok, Err}
use Rattle.std.specs.Prelude.{if◌then◌else◌, nat_le, nat_lt}
use Rattle.std.proofs.lemmas.Bool.{le-ltb}
use Rattle.std.proofs.lemmas.List.{append-nil}
use Rattle.std.specs.List.{AllByRecursion, flat_map}
use Rattle.exif_base.specs.declared.endian.Order.{Order}
use Rattle.exif_base.specs.Bytes.{number_at, spaced}
use Rattle.exif_base.specs.Orders.{number_of}
use Rattle.exif_table.specs.declared.context.Context.{Context}
use Rattle.exif_types.specs.declared.field.Field.{Field}
use Rattle.exif_tiff.specs.declared.fault.Fault.{Fault}
use Rattle.exif_tiff.specs.Trace.{Directory, Node, Visit, child_of, tagged_nodes, entry_nodes, whole_entries, directory_end, fields_of, faults_of}
use Rattle.exif_layout.specs.Encoding.{spelled, encode, value_len, moved_to}
use Rattle.exif_layout.specs.Slots.{Draft, Slot, Content, Known, OffsetsOf, LengthsOf, OffsetOf, content_len}
use Rattle.exif_layout.specs.Offsets.{Written, value_of, written, after_value, directory_offset, even}
use Rattle.exif_layout.specs.Image.{entry_text, directory_text, value_parts}
use Rattle.exif_layout.specs.Flat.{entry_fields}
use Rattle.exif_layout.specs.Layout.{Stands}
use Rattle.exif_tiff.proofs.ReportBound.{fields-append, faults-append}
use Rattle.exif_layout.proofs.Images.Words.{AllStand, Fits, ContentFits, SlotFits, Gives}
use Rattle.exif_layout.proofs.Images.Standing.{stands_left, stands_right, number_read, length_spelled}
use Rattle.exif_layout.proofs.Images.Offsets.{AllWrittenKnown, length-entry_texts, length-value_of, length-entry_text}
use Rattle.exif_layout.proofs.Images.Entries.{entry_is, fits_known}

-- pieces that give fields without a fault give them one after the other when joined
pub gives_append : (xs ys : List Node) (us vs : List Field) → Gives xs us → Gives ys vs → Gives (xs ++ ys) (us ++ vs)
gives_append xs ys us vs g h = record {
  seen = fields-append xs ys ∙ rw (g.seen, h.seen) refl;
  clean = faults-append xs ys ∙ rw (g.clean, h.clean) refl;
}

-- no nodes give no fields and no fault
pub gives_nothing : Gives [] []
gives_nothing = record { seen = refl; clean = refl }

module _ (order : Order) (bytes : List ℕ) (small : length bytes < 256 ^ 4) (draft : Draft) (start : ℕ) where
  -- the children of a directory: what reading and the fields have for each, and that none names a next directory
  pub record ChildrenGive (inner : Directory) (fields : Context → List Field) : Type 0 where
    pub nodes : (child : Context) → 0 < length (draft.slots child) → Gives (inner child (directory_offset draft start child)) (fields child)
    pub ends : (parent : Context) (tag : ℕ) (child : Context) → child_of parent tag ≡ Some child → 0 < length (draft.slots child) → directory_end (number_of order) bytes (directory_offset draft start child) ≡ Ok 0

  content_gives : (inner : Directory) (fields : Context → List Field) → ChildrenGive inner fields
      → (context : Context) (ifd directory e tag offset : ℕ) (content : Content) → ContentFits draft context tag content
      → Gives (Visit ∷ tagged_nodes inner (number_of order) bytes context ifd directory tag e (moved_to offset (value_of draft start content)) (child_of context tag))
      (entry_fields fields context ifd (record { tag = tag; content = content; value = value_of draft start content; offset = offset }))
  content_gives inner fields children context ifd directory e tag offset (Known value) h = rw h.1 (record { seen = refl; clean = refl })
  content_gives inner fields children context ifd directory e tag offset (OffsetsOf kind lengths) h = rw h.1 (record { seen = refl; clean = refl })
  content_gives inner fields children context ifd directory e tag offset (LengthsOf kind lengths) h = rw h.1 (record { seen = refl; clean = refl })
  content_gives inner fields children context ifd directory e tag offset (OffsetOf child) h =
      let nodes = children.nodes child h.1 in
      let end = children.ends context tag child h.0 h.1 in
      let q : ℕ = directory_offset draft start child in
      rw (h.0, end) (record {
        seen = fields-append (inner child q) [] ∙ append-nil (fields_of (inner child q)) ∙ nodes.seen;
        clean = faults-append (inner child q) [] ∙ append-nil (faults_of (inner child q)) ∙ nodes.clean;
      })

  -- the first of some values is in the data, where it doesn't fit into its entry
  pub value_outside : (entry : Written) (entries : List Written) → AllStand bytes (value_parts order (entry ∷ entries))
      → (fits : Bool) → nat_le (value_len entry.value) 4 ≡ fits → fits ≡ false → Stands bytes entry.offset (encode order entry.value)
  value_outside entry entries h true e f = absurd cc
  value_outside entry entries h false e f = (rw e at h).0

  -- and so are the values after the first one, whether or not that fits into its entry
  pub values_rest : (entry : Written) (entries : List Written) → AllStand bytes (value_parts order (entry ∷ entries))
      → (fits : Bool) → nat_le (value_len entry.value) 4 ≡ fits → AllStand bytes (value_parts order entries)
  values_rest entry entries h true e = rw e at h
  values_rest entry entries h false e = (rw e at h).1

  -- entries that fit and are in the data with their values are read as their fields, if the children are
  pub entries_give : (inner : Directory) (fields : Context → List Field) → ChildrenGive inner fields
      → (context : Context) (ifd directory at values : ℕ) (slots : List Slot) → AllByRecursion (SlotFits draft context) slots
      → AllByRecursion (λ slot. Fits (value_of draft start slot.content)) slots
      → Stands bytes at (flat_map (entry_text order) (written draft start at values slots))
      → AllStand bytes (value_parts order (written draft start at values slots))
      → Gives (flat_map (entry_nodes inner (number_of order) bytes context ifd directory) (spaced at 12 (length slots)))
      (flat_map (entry_fields fields context ifd) (written draft start at values slots))
  entries_give inner fields children context ifd directory at values [] fit good texts parts = gives_nothing
  entries_give inner fields children context ifd directory at values (slot ∷ slots) fit good texts parts =
      let entry : Written = record {
        tag = slot.tag;
        content = slot.content;
        value = value_of draft start slot.content;
        offset = if nat_le (content_len slot.content) 4 then at + 8 else even values;
      } in
      let rest : List Written = written draft start (at + 12) (after_value values (content_len slot.content)) slots in
      let same : value_len entry.value ≡ content_len slot.content = length-value_of draft start slot.content in
      let text : Stands bytes at (entry_text order entry) = stands_left bytes (entry_text order entry) (flat_map (entry_text order) rest) at texts in
      let len : length (entry_text order entry) ≡ 12 = length-entry_text order entry (fits_known entry.value good.0) in
      let more : Stands bytes (at + 12) (flat_map (entry_text order) rest) =
      stands_right bytes (entry_text order entry) (flat_map (entry_text order) rest) at (at + 12) texts (omega arith) in
      let inside : nat_le (value_len entry.value) 4 ≡ true → entry.offset ≡ at + 8 =
      λ e. let e' : nat_le (content_len slot.content) 4 ≡ true = ap (λ n. nat_le n 4) (sym same) ∙ e in rw e' refl in
      let is = entry_is order bytes small inner context ifd directory entry at fit.0.tag good.0 text inside
      (value_outside entry rest parts (nat_le (value_len entry.value) 4) refl) in
      let one : Gives (entry_nodes inner (number_of order) bytes context ifd directory at) (entry_fields fields context ifd entry) =
      rw is (content_gives inner fields children context ifd directory at slot.tag entry.offset slot.content fit.0.content) in
      gives_append _ _ _ _ one
      (entries_give inner fields children context ifd directory (at + 12) (after_value values (content_len slot.content)) slots fit.1 good.1 more
      (values_rest entry rest parts (nat_le (value_len entry.value) 4) refl))

-- the end of a directory where no test finds a fault
end_is : (a b c : Bool) (x y z : Fault) (n next : ℕ) → a ≡ false → b ≡ false → c ≡ false → n ≡ next
    → (let r : Result ℕ Fault = if a then Err x else (if b then Err y else (if c then Err z else Ok n)) in r) ≡ Ok next
end_is a b c x y z n next p q r e = rw (p, q, r, e) refl

-- a directory is read whole: its entries, and what it names next
pub record IsWhole (order : Order) (bytes : List ℕ) (offset next : ℕ) (entries : List Written) : Type 0 where
  pub count : whole_entries (number_of order) bytes offset ≡ length entries
  pub end : directory_end (number_of order) bytes offset ≡ Ok next
  pub texts : Stands bytes (offset + 2) (flat_map (entry_text order) entries)

-- a directory of at most 65535 entries of known types, whose bytes are in the data, is read whole
pub directory_read : (order : Order) (bytes : List ℕ) (offset next : ℕ) (entries : List Written) → length entries ≤ 65535 → next < 256 ^ 4
    → AllWrittenKnown entries → Stands bytes offset (directory_text order next entries) → IsWhole order bytes offset next entries
directory_read order bytes offset next entries few low known s =
    let a : List ℕ = spelled order 2 (length entries) in
    let b : List ℕ = flat_map (entry_text order) entries in
    let c : List ℕ = spelled order 4 next in
    let al : length a ≡ 2 = length_spelled order 2 (length entries) in
    let bl : length b ≡ 12 * length entries = length-entry_texts order entries known in
    let cl : length c ≡ 4 = length_spelled order 4 next in
    let bs : Stands bytes (offset + 2) (b ++ c) = stands_right bytes a (b ++ c) offset (offset + 2) s (omega arith) in
    let cs : Stands bytes (offset + 2 + 12 * length entries) c = stands_right bytes b c (offset + 2) (offset + 2 + 12 * length entries) bs (omega arith) in
    let within = cs.within in
    let number : number_at (number_of order) 2 bytes offset ≡ length entries = number_read order 2 (length entries) offset bytes (omega arith) (stands_left bytes a (b ++ c) offset s) in
    let room : length entries ≤ (length bytes - offset - 2) / 12 = omega arith in
    record {
      count = rw number (omega arith);
      end = end_is (nat_lt (length bytes) (offset + 2)) (nat_lt ((length bytes - offset - 2) / 12) (number_at (number_of order) 2 bytes offset))
          (nat_lt (length bytes) (offset + 2 + 12 * number_at (number_of order) 2 bytes offset + 4)) _ _ _
          (number_at (number_of order) 4 bytes (offset + 2 + 12 * number_at (number_of order) 2 bytes offset)) next
          (le-ltb (length bytes) (offset + 2) (omega arith))
          (le-ltb ((length bytes - offset - 2) / 12) (number_at (number_of order) 2 bytes offset) (omega arith))
          (le-ltb (length bytes) (offset + 2 + 12 * number_at (number_of order) 2 bytes offset + 4) (omega arith))
          (ap (λ n. number_at (number_of order) 4 bytes (offset + 2 + 12 * n)) number ∙ number_read order 4 next (offset + 2 + 12 * length entries) bytes low cs);
      texts = stands_left bytes b c (offset + 2) bs;
    }
