-- The offsets of a draft, each from the one before.
use Rattle.std.proofs.Common.{◌≡◌, ℕ, ◌+◌, ◌%◌, ◌≤◌, ◌<◌, ◌^◌, List, ◌∙◌, ap, refl, arith}
use Rattle.exif_table.specs.declared.context.Context.TheVariants.{Tiff, Exif, Gps, Interop}
use Rattle.exif_layout.specs.declared.block_kind.BlockKind.TheVariants.{Strips, Tiles, Jpeg}
use Rattle.exif_layout.specs.Slots.{Draft}
use Rattle.exif_layout.specs.Offsets.{directory_len, after_values, after_blocks, tiff_offset, exif_offset, gps_offset, interop_offset, tiff_values, exif_values, gps_values, interop_values, strips_offset, tiles_offset, jpeg_offset, draft_end}
use Rattle.exif_layout.proofs.Images.Room.{offsets_grow}

-- Each offset, from the one before it.
module _ (draft : Draft) (start : ℕ) where
  -- the directory of the chain is at the first even offset from the start on
  pub tiff_is : start + start % 2 ≡ tiff_offset draft start
  unfolding tiff_offset
  tiff_is = refl

  -- the directories end behind all of them
  pub directories_are : tiff_values draft start ≡ start + start % 2 + directory_len (draft.slots Tiff) + directory_len (draft.slots Exif)
      + directory_len (draft.slots Gps) + directory_len (draft.slots Interop)
  unfolding tiff_offset exif_offset gps_offset interop_offset tiff_values
  directories_are = refl

  -- the offsets of the directories
  pub exif_offset_at : {a : ℕ} → a ≡ directory_len (draft.slots Tiff) → start + start % 2 + a ≡ exif_offset draft start
  unfolding tiff_offset exif_offset
  exif_offset_at a = λ i. start + start % 2 + a i

  -- the GPS directory is right behind those of the chain and of Exif
  pub gps_offset_at : {a b : ℕ} → a ≡ directory_len (draft.slots Tiff) → b ≡ directory_len (draft.slots Exif) → start + start % 2 + a + b ≡ gps_offset draft start
  unfolding tiff_offset exif_offset gps_offset
  gps_offset_at a b = λ i. start + start % 2 + a i + b i

  -- the Interoperability directory is right behind those of the chain, of Exif and of GPS
  pub interop_offset_at : {a b c : ℕ} → a ≡ directory_len (draft.slots Tiff) → b ≡ directory_len (draft.slots Exif) → c ≡ directory_len (draft.slots Gps)
      → start + start % 2 + a + b + c ≡ interop_offset draft start
  unfolding tiff_offset exif_offset gps_offset interop_offset
  interop_offset_at a b c = λ i. start + start % 2 + a i + b i + c i

  -- the values of the directory of the chain begin right behind all four directories
  pub tiff_values_at : {a b c d : ℕ} → a ≡ directory_len (draft.slots Tiff) → b ≡ directory_len (draft.slots Exif) → c ≡ directory_len (draft.slots Gps)
      → d ≡ directory_len (draft.slots Interop) → start + start % 2 + a + b + c + d ≡ tiff_values draft start
  unfolding tiff_offset exif_offset gps_offset interop_offset tiff_values
  tiff_values_at a b c d = λ i. start + start % 2 + a i + b i + c i + d i

  -- the ends of the values
  pub exif_at : {tiff exif : ℕ} → tiff ≡ tiff_values draft start → exif ≡ after_values tiff (draft.slots Tiff) → exif ≡ exif_values draft start
  unfolding exif_values
  exif_at t e = e ∙ ap (λ p. after_values p (draft.slots Tiff)) t

  -- where the values of the Exif directory end, those of the GPS directory begin
  pub gps_at : {exif gps : ℕ} → exif ≡ exif_values draft start → gps ≡ after_values exif (draft.slots Exif) → gps ≡ gps_values draft start
  unfolding gps_values
  gps_at t e = e ∙ ap (λ p. after_values p (draft.slots Exif)) t

  -- where the values of the GPS directory end, those of the Interoperability directory begin
  pub interop_at : {gps interop : ℕ} → gps ≡ gps_values draft start → interop ≡ after_values gps (draft.slots Gps) → interop ≡ interop_values draft start
  unfolding interop_values
  interop_at t e = e ∙ ap (λ p. after_values p (draft.slots Gps)) t

  -- where the values of the Interoperability directory end, the strips begin
  pub strips_at : {interop strips : ℕ} → interop ≡ interop_values draft start → strips ≡ after_values interop (draft.slots Interop) → strips ≡ strips_offset draft start
  unfolding strips_offset
  strips_at t e = e ∙ ap (λ p. after_values p (draft.slots Interop)) t

  -- the ends of the blocks
  pub tiles_at : {strips tiles : ℕ} {blocks : List (List ℕ)} → strips ≡ strips_offset draft start → blocks ≡ draft.blocks Strips → tiles ≡ after_blocks strips blocks → tiles ≡ tiles_offset draft start
  unfolding tiles_offset
  tiles_at t b e = e ∙ (λ i. after_blocks (t i) (b i))

  -- where the tiles end, the JPEG begins
  pub jpeg_at : {tiles jpeg : ℕ} {blocks : List (List ℕ)} → tiles ≡ tiles_offset draft start → blocks ≡ draft.blocks Tiles → jpeg ≡ after_blocks tiles blocks → jpeg ≡ jpeg_offset draft start
  unfolding jpeg_offset
  jpeg_at t b e = e ∙ (λ i. after_blocks (t i) (b i))

  -- where the JPEG ends, the draft ends
  pub end_at : {jpeg end : ℕ} {blocks : List (List ℕ)} → jpeg ≡ jpeg_offset draft start → blocks ≡ draft.blocks Jpeg → end ≡ after_blocks jpeg blocks → end ≡ draft_end draft start
  unfolding draft_end
  end_at t b e = e ∙ (λ i. after_blocks (t i) (b i))

-- the offsets of values, and the end of the last ones
pub record AreValuesOffsets (draft : Draft) (start tiff_at exif_at gps_at interop_at strips_at : ℕ) : Type 0 where
  pub tiff : tiff_at ≡ tiff_values draft start
  pub exif : exif_at ≡ exif_values draft start
  pub gps : gps_at ≡ gps_values draft start
  pub interop : interop_at ≡ interop_values draft start
  pub strips : strips_at ≡ strips_offset draft start

-- the ends of blocks
pub record AreBlocksOffsets (draft : Draft) (start tiles_at jpeg_at end_at : ℕ) : Type 0 where
  pub tiles : tiles_at ≡ tiles_offset draft start
  pub jpeg : jpeg_at ≡ jpeg_offset draft start
  pub end : end_at ≡ draft_end draft start

-- each offset lies between the start and the end
pub record IsBetween (start end offset : ℕ) : Type 0 where
  pub low : start ≤ offset
  pub high : offset ≤ end

-- a draft's first directory, its values and its blocks of each kind begin within the draft
pub record OffsetsWithin (draft : Draft) (start : ℕ) : Type 0 where
  pub in_tiff : IsBetween start (draft_end draft start) (tiff_offset draft start)
  pub in_tiff_values : IsBetween start (draft_end draft start) (tiff_values draft start)
  pub in_strips : IsBetween start (draft_end draft start) (strips_offset draft start)
  pub in_tiles : IsBetween start (draft_end draft start) (tiles_offset draft start)
  pub in_jpeg : IsBetween start (draft_end draft start) (jpeg_offset draft start)

-- in each draft, wherever it starts, these offsets lie between its start and its end
pub offsets_within : (draft : Draft) (start : ℕ) → OffsetsWithin draft start
offsets_within draft start =
    let g = offsets_grow draft start in
    let a0 = g.tiff_up in
    let a1 = g.exif_up in
    let a2 = g.gps_up in
    let a3 = g.interop_up in
    let a4 = g.tiff_values_up in
    let a5 = g.exif_values_up in
    let a6 = g.gps_values_up in
    let a7 = g.interop_values_up in
    let a8 = g.strips_up in
    let a9 = g.tiles_up in
    let a10 = g.jpeg_up in
    let a11 = g.end_up in
    record {
      in_tiff = record { low = omega arith; high = omega arith };
      in_tiff_values = record { low = omega arith; high = omega arith };
      in_strips = record { low = omega arith; high = omega arith };
      in_tiles = record { low = omega arith; high = omega arith };
      in_jpeg = record { low = omega arith; high = omega arith };
    }

-- 32 bits hold the offsets of the directories where they hold the end
pub directories_fit : (draft : Draft) (start : ℕ) → draft_end draft start < 2 ^ 32
    → start + start % 2 + directory_len (draft.slots Tiff) + directory_len (draft.slots Exif) + directory_len (draft.slots Gps) + directory_len (draft.slots Interop) < 2 ^ 32
directories_fit draft start h = let e = directories_are draft start in let w = (offsets_within draft start).in_tiff_values.high in omega arith

-- each offset of values lies between the start and the end of the values
pub record ValuesWithin (draft : Draft) (start : ℕ) : Type 0 where
  pub in_tiff : IsBetween start (strips_offset draft start) (tiff_values draft start)
  pub in_exif : IsBetween start (strips_offset draft start) (exif_values draft start)
  pub in_gps : IsBetween start (strips_offset draft start) (gps_values draft start)
  pub in_interop : IsBetween start (strips_offset draft start) (interop_values draft start)

-- in each draft, the values of each directory begin between its start and its strips
pub all_values_within : (draft : Draft) (start : ℕ) → ValuesWithin draft start
all_values_within draft start =
    let w = offsets_within draft start in
    let a0 = w.in_tiff_values.low in
    let g = offsets_grow draft start in
    let a5 = g.exif_values_up in
    let a6 = g.gps_values_up in
    let a7 = g.interop_values_up in
    let a8 = g.strips_up in
    record {
      in_tiff = record { low = omega arith; high = omega arith };
      in_exif = record { low = omega arith; high = omega arith };
      in_gps = record { low = omega arith; high = omega arith };
      in_interop = record { low = omega arith; high = omega arith };
    }
