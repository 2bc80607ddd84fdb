-- In an image that is written every offset, value and block lies below 2 ^ 32.
use Rattle.std.proofs.Common.{◌≡◌, ℕ, ◌+◌, ◌≤◌, List, [], ◌∷◌, length, refl, arith, Bool, true, false}
use Rattle.std.specs.Prelude.{if◌then◌else◌, nat_le}
use Rattle.std.proofs.lemmas.Bool.{leb-true}
use Rattle.std.proofs.Math.Nat.{le_trans}
use Rattle.std.specs.List.{AllByRecursion}
use Rattle.exif_table.specs.declared.context.Context.{Context}
use Rattle.exif_table.specs.declared.context.Context.TheVariants.{Tiff, Exif, Gps, Interop}
use Rattle.exif_types.specs.declared.value.Value.{Value}
use Rattle.exif_types.specs.declared.value.Value.TheVariants.{Byte, Ascii, Short, Long, Rational, SByte, Undefined, SShort, SLong, SRational, Float, Double, Unknown}
use Rattle.exif_layout.specs.declared.block_kind.BlockKind.{BlockKind}
use Rattle.exif_layout.specs.declared.block_kind.BlockKind.TheVariants.{Strips, Tiles, Jpeg}
use Rattle.exif_layout.specs.Encoding.{value_len}
use Rattle.exif_types.specs.ValueTypes.{count_of}
use Rattle.exif_layout.specs.Slots.{Draft, Slot, content_len}
use Rattle.exif_layout.specs.Offsets.{even, after_value, after_values, after_blocks, tiff_offset, exif_offset, gps_offset, interop_offset, tiff_values, exif_values, gps_values, interop_values, strips_offset, tiles_offset, jpeg_offset, draft_end, directory_offset, values_offset, blocks_offset, drafts_end}
use Rattle.exif_layout.specs.Refused.{is_unknown}

-- a value of a known type has no more items than bytes
pub count_within : (value : Value) → is_unknown value ≡ false → count_of value ≤ value_len value
count_within (Byte xs) h = omega arith
count_within (Ascii xs) h = omega arith
count_within (Short xs) h = omega arith
count_within (Long xs) h = omega arith
count_within (Rational xs) h = omega arith
count_within (SByte xs) h = omega arith
count_within (Undefined xs offset) h = omega arith
count_within (SShort xs) h = omega arith
count_within (SLong xs) h = omega arith
count_within (SRational xs) h = omega arith
count_within (Float xs) h = omega arith
count_within (Double xs) h = omega arith
count_within (Unknown type count offset) h = absurd cc

-- offsets only grow
value_low : (offset len : ℕ) → offset ≤ after_value offset len
value_low offset len = elim (nat_le len 4) as (λ b. offset ≤ (if b then offset else even offset + len)) [ true ↦ omega arith | false ↦ omega arith ]

-- the values of a directory end no lower than their first offset
pub values_low : (offset : ℕ) (slots : List Slot) → offset ≤ after_values offset slots
values_low offset [] = omega arith
values_low offset (slot ∷ slots) = le_trans (value_low offset (content_len slot.content)) (values_low (after_value offset (content_len slot.content)) slots)

-- blocks end no lower than their first offset
pub blocks_low : (offset : ℕ) (texts : List (List ℕ)) → offset ≤ after_blocks offset texts
blocks_low offset [] = omega arith
blocks_low offset (text ∷ texts) = let more = blocks_low (offset + length text) texts in omega arith

-- a value takes no more than 4 bytes or is before the end
value_room : (offset len end : ℕ) → after_value offset len ≤ end → 4 ≤ end → len ≤ end
value_room offset len end h few = go (nat_le len 4) refl h
  where
    go : (b : Bool) → nat_le len 4 ≡ b → (if b then offset else even offset + len) ≤ end → len ≤ end
    go true e k = let low = leb-true len 4 e in omega arith
    go false e k = omega arith

-- where values end no higher than at some offset, at least 4, none is longer than it
pub values_room : (offset end : ℕ) (slots : List Slot) → after_values offset slots ≤ end → 4 ≤ end → AllByRecursion (λ slot. content_len slot.content ≤ end) slots
values_room offset end [] h few = tt
values_room offset end (slot ∷ slots) h few = (
  value_room offset (content_len slot.content) end (le_trans (values_low (after_value offset (content_len slot.content)) slots) h) few,
  values_room (after_value offset (content_len slot.content)) end slots h few,
)

-- how many bytes blocks take
abbrev pub blocks_len : List (List ℕ) → ℕ
blocks_len [] = 0
blocks_len (text ∷ texts) = length text + blocks_len texts

-- blocks end as many bytes behind their first offset as they take in all
pub blocks_end : (offset : ℕ) (texts : List (List ℕ)) → after_blocks offset texts ≡ offset + blocks_len texts
blocks_end offset [] = omega arith
blocks_end offset (text ∷ texts) = let more = blocks_end (offset + length text) texts in omega arith

-- the offsets of a draft, each no lower than the one before
pub record OffsetsGrow (draft : Draft) (start : ℕ) : Type 0 where
  pub tiff_up : start ≤ tiff_offset draft start
  pub exif_up : tiff_offset draft start ≤ exif_offset draft start
  pub gps_up : exif_offset draft start ≤ gps_offset draft start
  pub interop_up : gps_offset draft start ≤ interop_offset draft start
  pub tiff_values_up : interop_offset draft start ≤ tiff_values draft start
  pub exif_values_up : tiff_values draft start ≤ exif_values draft start
  pub gps_values_up : exif_values draft start ≤ gps_values draft start
  pub interop_values_up : gps_values draft start ≤ interop_values draft start
  pub strips_up : interop_values draft start ≤ strips_offset draft start
  pub tiles_up : strips_offset draft start ≤ tiles_offset draft start
  pub jpeg_up : tiles_offset draft start ≤ jpeg_offset draft start
  pub end_up : jpeg_offset draft start ≤ draft_end draft start

-- in every draft each offset is no lower than the one before
pub offsets_grow : (draft : Draft) (start : ℕ) → OffsetsGrow draft start
unfolding tiff_offset exif_offset gps_offset interop_offset tiff_values exif_values gps_values interop_values strips_offset tiles_offset jpeg_offset draft_end
offsets_grow draft start = record {
  tiff_up = omega arith;
  exif_up = omega arith;
  gps_up = omega arith;
  interop_up = omega arith;
  tiff_values_up = omega arith;
  exif_values_up = values_low (tiff_values draft start) (draft.slots Tiff);
  gps_values_up = values_low (exif_values draft start) (draft.slots Exif);
  interop_values_up = values_low (gps_values draft start) (draft.slots Gps);
  strips_up = values_low (interop_values draft start) (draft.slots Interop);
  tiles_up = blocks_low (strips_offset draft start) (draft.blocks Strips);
  jpeg_up = blocks_low (tiles_offset draft start) (draft.blocks Tiles);
  end_up = blocks_low (jpeg_offset draft start) (draft.blocks Jpeg);
}

module _ (draft : Draft) (start : ℕ) where
  -- each directory of a draft begins no higher than where the draft ends
  pub directory_within : (context : Context) → directory_offset draft start context ≤ draft_end draft start
  directory_within context = let g = offsets_grow draft start in by_context g context
    where
      by_context : OffsetsGrow draft start → (context : Context) → directory_offset draft start context ≤ draft_end draft start
      by_context g Tiff = let a = g.exif_up in let b = g.gps_up in let c = g.interop_up in let d = g.tiff_values_up in let e = g.exif_values_up in let f = g.gps_values_up in let h = g.interop_values_up in let i = g.strips_up in let j = g.tiles_up in let k = g.jpeg_up in let l = g.end_up in omega arith
      by_context g Exif = let b = g.gps_up in let c = g.interop_up in let d = g.tiff_values_up in let e = g.exif_values_up in let f = g.gps_values_up in let h = g.interop_values_up in let i = g.strips_up in let j = g.tiles_up in let k = g.jpeg_up in let l = g.end_up in omega arith
      by_context g Gps = let c = g.interop_up in let d = g.tiff_values_up in let e = g.exif_values_up in let f = g.gps_values_up in let h = g.interop_values_up in let i = g.strips_up in let j = g.tiles_up in let k = g.jpeg_up in let l = g.end_up in omega arith
      by_context g Interop = let d = g.tiff_values_up in let e = g.exif_values_up in let f = g.gps_values_up in let h = g.interop_values_up in let i = g.strips_up in let j = g.tiles_up in let k = g.jpeg_up in let l = g.end_up in omega arith

  -- where the values of each directory end
  pub values_within : (context : Context) → after_values (values_offset draft start context) (draft.slots context) ≤ draft_end draft start
  unfolding exif_values gps_values interop_values strips_offset
  values_within Tiff = let g = offsets_grow draft start in let f = g.gps_values_up in let h = g.interop_values_up in let i = g.strips_up in let j = g.tiles_up in let k = g.jpeg_up in let l = g.end_up in omega arith
  values_within Exif = let g = offsets_grow draft start in let h = g.interop_values_up in let i = g.strips_up in let j = g.tiles_up in let k = g.jpeg_up in let l = g.end_up in omega arith
  values_within Gps = let g = offsets_grow draft start in let i = g.strips_up in let j = g.tiles_up in let k = g.jpeg_up in let l = g.end_up in omega arith
  values_within Interop = let g = offsets_grow draft start in let j = g.tiles_up in let k = g.jpeg_up in let l = g.end_up in omega arith

  -- where the blocks of each kind end
  pub blocks_within : (kind : BlockKind) → blocks_offset draft start kind + blocks_len (draft.blocks kind) ≤ draft_end draft start
  unfolding tiles_offset jpeg_offset draft_end
  blocks_within Strips = let e = blocks_end (strips_offset draft start) (draft.blocks Strips) in let g = offsets_grow draft start in let k = g.jpeg_up in let l = g.end_up in omega arith
  blocks_within Tiles = let e = blocks_end (tiles_offset draft start) (draft.blocks Tiles) in let g = offsets_grow draft start in let l = g.end_up in omega arith
  blocks_within Jpeg = let e = blocks_end (jpeg_offset draft start) (draft.blocks Jpeg) in omega arith

  -- a draft ends no lower than where it starts
  pub end_low : start ≤ draft_end draft start
  end_low = let t = (offsets_grow draft start).tiff_up in let d = directory_within Tiff in le_trans t d

-- drafts end no lower than where the first one starts
pub drafts_low : (start : ℕ) (drafts : List Draft) → start ≤ drafts_end start drafts
drafts_low start [] = omega arith
drafts_low start (draft ∷ drafts) = le_trans (end_low draft start) (drafts_low (draft_end draft start) drafts)
