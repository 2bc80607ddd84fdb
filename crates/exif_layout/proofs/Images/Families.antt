-- A group whose parts are in the data is read as its fields: the top directory and its children.
use Rattle.std.proofs.Common.{◌≡◌, ℕ, zero, suc, ◌+◌, ◌<◌, ◌≤◌, ◌^◌, List, [], ◌∷◌, length, refl, ap, ◌∙◌, arith, Bool, true, false, map, Some, None, Ok}
use Rattle.std.specs.Prelude.{if◌then◌else◌, ◌==◌}
use Rattle.std.specs.List.{AllByRecursion, flat_map}
use Rattle.exif_base.specs.declared.endian.Order.{Order}
use Rattle.exif_base.specs.Orders.{number_of}
use Rattle.exif_table.specs.declared.context.Context.{Context}
use Rattle.exif_table.specs.declared.context.Context.TheVariants.{Tiff, Exif, Gps, Interop}
use Rattle.exif_types.specs.declared.field.Field.{Field}
use Rattle.exif_layout.specs.declared.block_kind.BlockKind.TheVariants.{Strips, Tiles, Jpeg}
use Rattle.exif_tiff.specs.Trace.{Directory, child_of, entry_nodes, entry_offsets, whole_entries, directory_nodes}
use Rattle.exif_layout.specs.Slots.{Draft, Slot, Content, Known, OffsetsOf, LengthsOf, OffsetOf, content_len}
use Rattle.exif_layout.specs.Offsets.{value_of, written, directory_offset, values_offset, blocks_offset, entries_of, offsets_from, after_value}
use Rattle.exif_layout.specs.Image.{Part, directory_text, directory_part, value_parts, block_parts, draft_parts}
use Rattle.exif_layout.specs.Flat.{entry_fields, directory_fields}
use Rattle.exif_layout.specs.Layout.{Stands}
use Rattle.exif_layout.proofs.Images.Words.{AllStand, Fits, ContentFits, SlotFits, Gives, DraftStands, next_of}
use Rattle.exif_tiff.proofs.Members.{all_left, all_right}
use Rattle.exif_layout.proofs.Images.Offsets.{AllWrittenKnown, length-written}
use Rattle.exif_layout.proofs.Images.Entries.{fits_known}
use Rattle.exif_layout.proofs.Images.Directories.{IsWhole, directory_read, entries_give, ChildrenGive}

-- no pointer names a top directory
no_top_child : (parent : Context) (tag : ℕ) → child_of parent tag ≡ Some Tiff → ⊥
no_top_child Tiff tag h = go (tag == 0x8769) (tag == 0x8825) h
  where
    go : (a b : Bool) → (if a then Some Exif else (if b then Some Gps else None)) ≡ Some Tiff → ⊥
    go true b h = cc
    go false true h = cc
    go false false h = cc
no_top_child Exif tag h = go (tag == 0xa005) h
  where
    go : (a : Bool) → (if a then Some Interop else None) ≡ Some Tiff → ⊥
    go true h = cc
    go false h = cc
no_top_child Gps tag h = cc
no_top_child Interop tag h = cc

next_of_child : (parent : Context) (tag next : ℕ) (child : Context) → child_of parent tag ≡ Some child → next_of next child ≡ 0
next_of_child parent tag next Tiff h = absurd (no_top_child parent tag h)
next_of_child parent tag next Exif h = refl
next_of_child parent tag next Gps h = refl
next_of_child parent tag next Interop h = refl

directory_stands : (order : Order) (bytes : List ℕ) (draft : Draft) (start offset next at values : ℕ) (slots : List Slot) → 0 < length slots
    → AllStand bytes (directory_part order offset next (written draft start at values slots))
    → Stands bytes offset (directory_text order next (written draft start at values slots))
directory_stands order bytes draft start offset next at values [] some h = absurd (omega arith)
directory_stands order bytes draft start offset next at values (slot ∷ slots) some h = h.0

-- the parts of a draft, one kind after the other
pub draft_stands : (order : Order) (bytes : List ℕ) (draft : Draft) (start next : ℕ) → AllStand bytes (draft_parts order draft start next) → DraftStands order bytes draft start next
unfolding draft_parts
draft_stands order bytes draft start next h =
    let P : Part → Type 0 = λ part. Stands bytes part.offset part.text in
    let a = all_right P (directory_part order (directory_offset draft start Tiff) next (entries_of draft start Tiff)) _ h in
    let b = all_right P (directory_part order (directory_offset draft start Exif) 0 (entries_of draft start Exif)) _ a in
    let c = all_right P (directory_part order (directory_offset draft start Gps) 0 (entries_of draft start Gps)) _ b in
    let d = all_right P (directory_part order (directory_offset draft start Interop) 0 (entries_of draft start Interop)) _ c in
    let e = all_right P (value_parts order (entries_of draft start Tiff)) _ d in
    let f = all_right P (value_parts order (entries_of draft start Exif)) _ e in
    let g = all_right P (value_parts order (entries_of draft start Gps)) _ f in
    let i = all_right P (value_parts order (entries_of draft start Interop)) _ g in
    let j = all_right P (block_parts (blocks_offset draft start Strips) (draft.blocks Strips)) _ i in
    record {
      directory = elim [
        | Tiff ↦ λ some. directory_stands order bytes draft start (directory_offset draft start Tiff) next _ _ (draft.slots Tiff) some (all_left P _ _ h)
        | Exif ↦ λ some. directory_stands order bytes draft start (directory_offset draft start Exif) 0 _ _ (draft.slots Exif) some (all_left P _ _ a)
        | Gps ↦ λ some. directory_stands order bytes draft start (directory_offset draft start Gps) 0 _ _ (draft.slots Gps) some (all_left P _ _ b)
        | Interop ↦ λ some. directory_stands order bytes draft start (directory_offset draft start Interop) 0 _ _ (draft.slots Interop) some (all_left P _ _ c)
      ];
      values = elim [
        | Tiff ↦ all_left P _ _ d
        | Exif ↦ all_left P _ _ e
        | Gps ↦ all_left P _ _ f
        | Interop ↦ all_left P _ _ g
      ];
      blocks = elim [
        | Strips ↦ all_left P _ _ i
        | Tiles ↦ all_left P _ _ j
        | Jpeg ↦ all_right P (block_parts (blocks_offset draft start Tiles) (draft.blocks Tiles)) _ j
      ];
    }

-- the offsets of blocks that are in the data are offsets of the bytes
offsets_low : (bytes : List ℕ) (offset : ℕ) (texts : List (List ℕ)) → length bytes < 256 ^ 4 → AllStand bytes (block_parts offset texts)
    → AllByRecursion (λ x. x < 256 ^ 4) (offsets_from offset (map length texts))
offsets_low bytes offset [] small h = tt
offsets_low bytes offset (text ∷ texts) small h =
    let within = h.0.within in (omega arith, offsets_low bytes (offset + length text) texts small h.1)

-- and so are their lengths
lengths_low : (bytes : List ℕ) (offset : ℕ) (texts : List (List ℕ)) → length bytes < 256 ^ 4 → AllStand bytes (block_parts offset texts)
    → AllByRecursion (λ x. x < 256 ^ 4) (map length texts)
lengths_low bytes offset [] small h = tt
lengths_low bytes offset (text ∷ texts) small h =
    let within = h.0.within in (omega arith, lengths_low bytes (offset + length text) texts small h.1)

module _ (order : Order) (bytes : List ℕ) (small : length bytes < 256 ^ 4) (draft : Draft) (start next : ℕ) (low : next < 256 ^ 4)
    (stands : DraftStands order bytes draft start next)
    (few : (context : Context) → length (draft.slots context) ≤ 65535)
    (fit : (context : Context) → AllByRecursion (SlotFits draft context) (draft.slots context)) where
  value_fits : (context : Context) (tag : ℕ) (content : Content) → ContentFits draft context tag content → Fits (value_of draft start content)
  value_fits context tag (Known value) h = h.0
  value_fits context tag (OffsetsOf blocks lengths) h =
      rw h.0 (offsets_low bytes (blocks_offset draft start blocks) (draft.blocks blocks) small (stands.blocks blocks))
  value_fits context tag (LengthsOf blocks lengths) h =
      rw h.0 (lengths_low bytes (blocks_offset draft start blocks) (draft.blocks blocks) small (stands.blocks blocks))
  value_fits context tag (OffsetOf child) h = let within = (stands.directory child h.1).within in (omega arith, tt)

  -- slots that fit have values that fit, once the offsets of the draft are settled
  pub values_fit : (context : Context) (slots : List Slot) → AllByRecursion (SlotFits draft context) slots → AllByRecursion (λ slot. Fits (value_of draft start slot.content)) slots
  values_fit context [] h = tt
  values_fit context (slot ∷ slots) h = (value_fits context slot.tag slot.content h.0.content, values_fit context slots h.1)

  written_known : (at values : ℕ) (slots : List Slot) → AllByRecursion (λ slot. Fits (value_of draft start slot.content)) slots
      → AllWrittenKnown (written draft start at values slots)
  written_known at values [] h = tt
  written_known at values (slot ∷ slots) h = (fits_known (value_of draft start slot.content) h.0, written_known (at + 12) (after_value values (content_len slot.content)) slots h.1)

  next_low : (context : Context) → next_of next context < 256 ^ 4
  next_low Tiff = low
  next_low Exif = omega arith
  next_low Gps = omega arith
  next_low Interop = omega arith

  -- each directory of the draft that has entries is read whole
  pub each_read : (context : Context) → 0 < length (draft.slots context)
      → IsWhole order bytes (directory_offset draft start context) (next_of next context) (entries_of draft start context)
  each_read context some =
      let few' = few context in
      let len = length-written draft start (directory_offset draft start context + 2) (values_offset draft start context) (draft.slots context) in
      directory_read order bytes (directory_offset draft start context) (next_of next context) (entries_of draft start context) (omega arith) (next_low context)
      (written_known _ _ (draft.slots context) (values_fit context (draft.slots context) (fit context)))
      (stands.directory context some)

  -- a directory with its children gives their fields
  with_children : (inner : Directory) (fields : Context → List Field) → ((child : Context) → 0 < length (draft.slots child) → Gives (inner child (directory_offset draft start child)) (fields child))
      → (ifd : ℕ) (context : Context) → 0 < length (draft.slots context)
      → Gives (flat_map (entry_nodes inner (number_of order) bytes context ifd (directory_offset draft start context)) (entry_offsets (number_of order) bytes (directory_offset draft start context)))
      (flat_map (entry_fields fields context ifd) (entries_of draft start context))
  with_children inner fields nodes ifd context some =
      let read = each_read context some in
      let children : ChildrenGive order bytes small draft start inner fields = record {
        nodes = nodes;
        ends = λ parent tag child is there. (each_read child there).end ∙ ap Ok (next_of_child parent tag next child is);
      } in
      let count : whole_entries (number_of order) bytes (directory_offset draft start context) ≡ length (draft.slots context) =
      read.count ∙ length-written draft start (directory_offset draft start context + 2) (values_offset draft start context) (draft.slots context) in
      rw count (entries_give order bytes small draft start inner fields children context ifd (directory_offset draft start context) (directory_offset draft start context + 2) (values_offset draft start context)
      (draft.slots context) (fit context) (values_fit context (draft.slots context) (fit context)) read.texts (stands.values context))

  -- a directory with entries, and its children down to a depth, give their fields and no fault
  pub nodes_give : (depth ifd : ℕ) (context : Context) → 0 < length (draft.slots context)
      → Gives (directory_nodes depth (number_of order) bytes ifd context (directory_offset draft start context)) (directory_fields draft start ifd depth context)
  nodes_give zero ifd context some = record { seen = refl; clean = refl }
  nodes_give (suc depth) ifd context some =
      let entries = with_children (directory_nodes depth (number_of order) bytes ifd) (directory_fields draft start ifd depth) (λ child there. nodes_give depth ifd child there) ifd context some in
      record { seen = entries.seen; clean = entries.clean }
