-- Words of the proofs on images.
use Rattle.std.specs.Prelude.{ℕ, ◌^◌, ◌<◌, ◌≤◌, ◌≡◌, ◌≢◌, false, Some, None, List, [], length, map, ⊤, FitsSigned}
use Rattle.std.specs.List.{AllByRecursion}
use Rattle.std.specs.Int.{w8, w16, w32}
use Rattle.exif_base.specs.declared.endian.Order.{Order}
use Rattle.exif_types.specs.declared.value.Value.{Value}
use Rattle.exif_types.specs.declared.value.Value.TheVariants.{Byte, Ascii, Short, Long, Rational, SByte, Undefined, SShort, SLong, SRational, Float, Double, Unknown}
use Rattle.exif_table.specs.declared.context.Context.{Context}
use Rattle.exif_table.specs.declared.context.Context.TheVariants.{Tiff, Exif, Gps, Interop}
use Rattle.exif_types.specs.declared.field.Field.{Field}
use Rattle.exif_layout.specs.declared.block_kind.BlockKind.{BlockKind}
use Rattle.exif_tiff.specs.Trace.{Node, child_of, fields_of, faults_of}
use Rattle.exif_layout.specs.Groups.{Group, pushed_in}
use Rattle.exif_layout.specs.Slots.{Draft, Slot, Content, Known, OffsetsOf, LengthsOf, OffsetOf, slots_of, tiff_slots}
use Rattle.exif_layout.specs.Offsets.{directory_offset, blocks_offset, entries_of}
use Rattle.exif_layout.specs.Image.{Part, directory_text, value_parts, block_parts}
use Rattle.exif_layout.specs.Refused.{is_unknown}
use Rattle.exif_layout.specs.Layout.{Stands}

-- each part has its text at its offset in the bytes
abbrev pub AllStand : List ℕ → List Part → Type 0
AllStand bytes parts = AllByRecursion (λ part. Stands bytes part.offset part.text) parts

-- a text without zero bytes
abbrev pub IsPlain : List ℕ → Type 0
IsPlain text = AllByRecursion (λ b. b ≢ 0) text

-- A value that is written, and read as it was: its numbers lie in their type's range, its texts hold no zero byte, its type is known.
abbrev pub Fits : Value → Type 0
Fits (Byte xs) = ⊤
Fits (Ascii xs) = AllByRecursion IsPlain xs
Fits (Short xs) = AllByRecursion (λ x. x < 256 ^ 2) xs
Fits (Long xs) = AllByRecursion (λ x. x < 256 ^ 4) xs
Fits (Rational xs) = AllByRecursion (λ x. (x.num < 256 ^ 4) × (x.denom < 256 ^ 4)) xs
Fits (SByte xs) = AllByRecursion (FitsSigned w8) xs
Fits (Undefined xs offset) = ⊤
Fits (SShort xs) = AllByRecursion (FitsSigned w16) xs
Fits (SLong xs) = AllByRecursion (FitsSigned w32) xs
Fits (SRational xs) = AllByRecursion (λ x. FitsSigned w32 x.num × FitsSigned w32 x.denom) xs
Fits (Float xs) = AllByRecursion (λ x. x < 256 ^ 4) xs
Fits (Double xs) = AllByRecursion (λ x. x < 256 ^ 8) xs
Fits (Unknown type count offset) = ⊥

-- an entry's value isn't of an unknown type
abbrev pub IsKnown : Content → Type 0
IsKnown (Known value) = is_unknown value ≡ false
IsKnown content = ⊤

-- no slot has a value of an unknown type
abbrev pub AllKnown : List Slot → Type 0
AllKnown slots = AllByRecursion (λ slot. IsKnown slot.content) slots

-- a group in which no cause for a refusal lies
pub record IsAccepted (group : Group) : Type 0 where
  pub some : 0 < length (tiff_slots group)
  pub few : (context : Context) → length (slots_of group context) ≤ 65535
  pub known : (context : Context) → AllByRecursion (λ entry. is_unknown entry.value ≡ false) (pushed_in group context)

-- what is in an entry is what the reader takes it for: a pointer names a child with entries, and nothing else is a pointer
abbrev pub ContentFits : Draft → Context → ℕ → Content → Type 0
ContentFits draft context tag (Known value) = Fits value × (child_of context tag ≡ None)
ContentFits draft context tag (OffsetsOf kind lengths) = (lengths ≡ map length (draft.blocks kind)) × (child_of context tag ≡ None)
ContentFits draft context tag (LengthsOf kind lengths) = (lengths ≡ map length (draft.blocks kind)) × (child_of context tag ≡ None)
ContentFits draft context tag (OffsetOf child) = (child_of context tag ≡ Some child) × (0 < length (draft.slots child))

-- a slot with a tag of two bytes, and a content that is what the reader takes it for
pub record SlotFits (draft : Draft) (context : Context) (slot : Slot) : Type 0 where
  pub tag : slot.tag < 256 ^ 2
  pub content : ContentFits draft context slot.tag slot.content

-- the nodes are these fields, and no fault
pub record Gives (nodes : List Node) (fields : List Field) : Type 0 where
  pub seen : fields_of nodes ≡ fields
  pub clean : faults_of nodes ≡ []

-- the next offset that a directory names: that of the next one in the chain, or none
abbrev pub next_of : ℕ → Context → ℕ
next_of next Tiff = next
next_of next Exif = 0
next_of next Gps = 0
next_of next Interop = 0

-- all parts of a draft are in the image
pub record DraftStands (order : Order) (bytes : List ℕ) (draft : Draft) (start next : ℕ) : Type 0 where
  pub directory : (context : Context) → 0 < length (draft.slots context)
      → Stands bytes (directory_offset draft start context) (directory_text order (next_of next context) (entries_of draft start context))
  pub values : (context : Context) → AllStand bytes (value_parts order (entries_of draft start context))
  pub blocks : (kind : BlockKind) → AllStand bytes (block_parts (blocks_offset draft start kind) (draft.blocks kind))
