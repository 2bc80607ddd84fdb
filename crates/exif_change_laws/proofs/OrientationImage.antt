-- Exif data that hold an orientation alone are read as it.
use Rattle.std.proofs.Common.{◌≡◌, ◌∙◌, ◌<◌, ◌+◌, ◌*◌, ◌/◌, ◌%◌, ◌^◌, ℕ, true, List, [], ◌∷◌, Some, Ok, refl, ap, arith}
use Rattle.exif_base.specs.declared.endian.Order.{Order}
use Rattle.exif_base.specs.declared.endian.Order.TheVariants.{Big, Little}
use Rattle.exif_table.specs.declared.context.Context.TheVariants.{Tiff}
use Rattle.exif_types.specs.declared.field.Field.{Field}
use Rattle.exif_types.specs.declared.value.Value.TheVariants.{Short}
use Rattle.exif_tiff.specs.Answers.{Whole, raw_answer}
use Rattle.exif_tiff.specs.Trace.{header, ordered_trace}
use Rattle.exif_layout.specs.Image.{draft_parts, image}
use Rattle.exif_layout.specs.Offsets.{draft_end, exif_offset, exif_values, gps_offset, gps_values, interop_offset, interop_values, jpeg_offset, strips_offset, tiff_offset, tiff_values, tiles_offset}
use Rattle.exif_layout.specs.Rewriting.{pushed_all}
use Rattle.exif_layout.specs.Slots.{exif_slots, gps_slots, interop_slots, tiff_slots}

-- the field
abbrev pub told : ℕ → Field
told n = record { tag = (Tiff, 0x112); ifd_num = record { 0 = 0 }; value = Short (n ∷ []) }

-- the data
abbrev pub data_of : Order → ℕ → List ℕ
data_of order n = image order (pushed_all (told n ∷ []) [])

big_bytes : (n : ℕ) → data_of Big n ≡ 77 ∷ 77 ∷ 0 ∷ 42 ∷ 0 ∷ 0 ∷ 0 ∷ 8 ∷ 0 ∷ 1 ∷ 1 ∷ 18 ∷ 0 ∷ 3 ∷ 0 ∷ 0 ∷ 0 ∷ 1 ∷ n / 256 % 256 ∷ n % 256 ∷ 0 ∷ 0 ∷ 0 ∷ 0 ∷ 0 ∷ 0 ∷ []
unfolding image draft_parts tiff_slots exif_slots gps_slots interop_slots tiff_offset exif_offset gps_offset interop_offset tiff_values exif_values gps_values interop_values strips_offset tiles_offset jpeg_offset draft_end
big_bytes n = refl

little_bytes : (n : ℕ) → data_of Little n ≡ 73 ∷ 73 ∷ 42 ∷ 0 ∷ 8 ∷ 0 ∷ 0 ∷ 0 ∷ 1 ∷ 0 ∷ 18 ∷ 1 ∷ 3 ∷ 0 ∷ 1 ∷ 0 ∷ 0 ∷ 0 ∷ n % 256 ∷ n / 256 % 256 ∷ 0 ∷ 0 ∷ 0 ∷ 0 ∷ 0 ∷ 0 ∷ []
unfolding image draft_parts tiff_slots exif_slots gps_slots interop_slots tiff_offset exif_offset gps_offset interop_offset tiff_values exif_values gps_values interop_values strips_offset tiles_offset jpeg_offset draft_end
little_bytes n = refl

-- what is read of such bytes
abbrev big_text : ℕ → ℕ → List ℕ
big_text a b = 77 ∷ 77 ∷ 0 ∷ 42 ∷ 0 ∷ 0 ∷ 0 ∷ 8 ∷ 0 ∷ 1 ∷ 1 ∷ 18 ∷ 0 ∷ 3 ∷ 0 ∷ 0 ∷ 0 ∷ 1 ∷ a ∷ b ∷ 0 ∷ 0 ∷ 0 ∷ 0 ∷ 0 ∷ 0 ∷ []

abbrev little_text : ℕ → ℕ → List ℕ
little_text a b = 73 ∷ 73 ∷ 42 ∷ 0 ∷ 8 ∷ 0 ∷ 0 ∷ 0 ∷ 1 ∷ 0 ∷ 18 ∷ 1 ∷ 3 ∷ 0 ∷ 1 ∷ 0 ∷ 0 ∷ 0 ∷ a ∷ b ∷ 0 ∷ 0 ∷ 0 ∷ 0 ∷ 0 ∷ 0 ∷ []

big_read : (a b : ℕ) → raw_answer true (Some 1000000) (big_text a b) ≡ Whole (told (a * 256 + (b * 1 + 0)) ∷ [])
unfolding raw_answer ordered_trace
big_read a b = refl

little_read : (a b : ℕ) → raw_answer true (Some 1000000) (little_text a b) ≡ Whole (told (a + 256 * (b + 256 * 0)) ∷ [])
unfolding raw_answer ordered_trace
little_read a b = refl

-- the data are read as the field alone, under the limit too
pub told_read : (order : Order) (n : ℕ) → n < 2 ^ 16 → raw_answer true (Some 1000000) (data_of order n) ≡ Whole (told n ∷ [])
told_read Big n h =
    let is : n / 256 % 256 * 256 + (n % 256 * 1 + 0) ≡ n = omega (arith, h) in
    ap (raw_answer true (Some 1000000)) (big_bytes n)
    ∙ (big_read (n / 256 % 256) (n % 256) ∙ ap (λ (k : ℕ). Whole (told k ∷ [])) is)
told_read Little n h =
    let is : n % 256 + 256 * (n / 256 % 256 + 256 * 0) ≡ n = omega (arith, h) in
    ap (raw_answer true (Some 1000000)) (little_bytes n)
    ∙ (little_read (n % 256) (n / 256 % 256) ∙ ap (λ (k : ℕ). Whole (told k ∷ [])) is)

-- in this byte order
pub told_order : (order : Order) (n : ℕ) → header (data_of order n) ≡ Ok order
told_order Big n = ap header (big_bytes n)
told_order Little n = ap header (little_bytes n)
