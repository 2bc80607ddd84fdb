-- What is promised of where the parts and the blocks of an image are.
use Rattle.std.specs.Prelude.{ℕ, ◌+◌, ◌≤◌, ◌<◌, ◌==◌, ◌&&◌, ◌≡◌, Bool, true, false, List, [], ◌∷◌, length, map, get_or, slice_index, ◌⊎◌, Some}
use Rattle.std.specs.List.{All, AllZip, filter}
use Rattle.exif_base.specs.Bytes.{bytes_at}
use Rattle.exif_base.specs.declared.endian.Order.{Order}
use Rattle.exif_types.specs.declared.value.Value.TheVariants.{Long}
use Rattle.exif_table.specs.declared.context.Context.{Context}
use Rattle.exif_table.specs.declared.context.Context.TheVariants.{Tiff, Exif, Gps, Interop}
use Rattle.exif_types.specs.declared.field.Field.{Field}
use Rattle.exif_layout.specs.declared.block_kind.BlockKind.{BlockKind}
use Rattle.exif_layout.specs.Groups.{Group, empty_group, blocks_in, offsets_tag, lengths_tag}
use Rattle.exif_layout.specs.Slots.{draft_of}
use Rattle.exif_layout.specs.Offsets.{drafts_end}
use Rattle.exif_layout.specs.Image.{Part, parts, image}
use Rattle.exif_layout.specs.Flat.{field_of, flat}

-- the text is what the bytes have at the offset
pub record Stands (bytes : List ℕ) (offset : ℕ) (text : List ℕ) : Type 0 where
  pub within : offset + length text ≤ length bytes
  pub there : bytes_at (length text) bytes offset ≡ text

-- from start to end each part begins where the one before it ends, or one byte later
abbrev pub Spans : ℕ → List Part → ℕ → Type 0
Spans start [] end = start ≡ end
Spans start (part ∷ parts) end =
    (start ≤ part.offset) × (part.offset ≤ start + 1)
    × Spans (part.offset + length part.text) parts end

-- an offset that no byte of the part is at
abbrev pub IsOutside : ℕ → Part → Type 0
IsOutside offset part = (offset < part.offset) ⊎ (part.offset + length part.text ≤ offset)

-- the parts are side by side from the first byte to the last, but for single bytes between them,
-- which are zero
pub record LaidOut (order : Order) (groups : List Group) : Type 0 where
  pub span : Spans 0 (parts order (map draft_of groups)) (length (image order groups))
  pub stand : All (λ part. Stands (image order groups) part.offset part.text)
      (parts order (map draft_of groups))
  pub pads : (offset : ℕ) → offset < length (image order groups)
      → All (IsOutside offset) (parts order (map draft_of groups))
      → slice_index (image order groups) offset ≡ 0

-- an image is as long as the refusal of a too long one asks, and not too long
pub record LengthIsEnd (order : Order) (groups : List Group) : Type 0 where
  pub end : length (image order groups) ≡ drafts_end 8 (map draft_of groups)
  pub small : length (image order groups) ≤ 4294967295

-- whether a context is that of the directories in the chain
abbrev pub is_tiff : Context → Bool
is_tiff Tiff = true
is_tiff Exif = false
is_tiff Gps = false
is_tiff Interop = false

-- the fields that a directory of the chain has under a tag
abbrev pub fields_under : ℕ → ℕ → List Field → List Field
fields_under tag ifd all =
    filter (λ field. is_tiff field.tag.0 && (field.tag.1 == tag) && (field.ifd_num.0 == ifd)) all

-- blocks that the fields of a directory name: one field has their offsets and one their lengths,
-- and each is whole at its offset
pub record BlocksNamed (bytes : List ℕ) (all : List Field) (ifd : ℕ) (kind : BlockKind)
    (texts : List (List ℕ)) : Type 0 where
  pub offsets : List ℕ
  pub offsets_named : fields_under (offsets_tag kind) ifd all
      ≡ field_of Tiff (offsets_tag kind) ifd (Long offsets) ∷ []
  pub lengths_named : fields_under (lengths_tag kind) ifd all
      ≡ field_of Tiff (lengths_tag kind) ifd (Long (map length texts)) ∷ []
  pub stand : AllZip (λ offset text. Stands bytes offset text) offsets texts

-- each block of an image is where its two fields say
abbrev pub BlocksStand : Order → List Group → Type 0
BlocksStand order groups =
    (ifd : ℕ) (kind : BlockKind) (texts : List (List ℕ)) → ifd < length groups
    → blocks_in (get_or groups ifd empty_group) kind ≡ Some texts
    → BlocksNamed (image order groups) (flat groups) ifd kind texts
