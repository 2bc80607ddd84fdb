-- CRCs of chunks that were not changed stay.
use Rattle.std.proofs.Common.{◌≡◌, ℕ, Bool, true, false, ◌&&◌, not, cond, List, [], ◌∷◌, refl, ap, ◌∙◌}
use Rattle.std.proofs.lemmas.Slice.Eq.{bytes_eq-Decides}
use Rattle.std.specs.Str.{bytes_eq}
use Rattle.exif_inventory.specs.declared.part.Part.{Part}
use Rattle.exif_containers.specs.Png.{begins_png}
use Rattle.exif_privacy.specs.Chunks.{is_changed, is_chunk, mended, part_bytes, part_mended, parts_mended, with_crc}

-- bytes are themselves
same_bytes : (xs : List ℕ) → bytes_eq xs xs ≡ true
same_bytes xs = (bytes_eq-Decides xs xs).1 refl

unchanged : (file : List ℕ) (part : Part) → is_changed file part file ≡ false
unchanged file part = by_both (is_chunk part file) (bytes_eq (part_bytes part file) (part_bytes part file)) (same_bytes (part_bytes part file))
  where
    by_both : (a b : Bool) → b ≡ true → (a && not b) ≡ false
    by_both true true e = refl
    by_both true false e = absurd (no e)
      where
        no : false ≡ true → ⊥
        no e = cc
    by_both false b e = refl

part_same : (file : List ℕ) (part : Part) → part_mended file part file ≡ file
part_same file part = ap (λ b. cond b (with_crc part file) file) (unchanged file part)

parts_same : (file : List ℕ) (parts : List Part) → parts_mended file parts file ≡ file
parts_same file [] = refl
parts_same file (part ∷ parts) = ap (parts_mended file parts) (part_same file part) ∙ parts_same file parts

-- a file in which nothing was changed stays as it is
pub mended_same : (file : List ℕ) (parts : List Part) → mended file parts file ≡ file
mended_same file parts = by_png (begins_png file)
  where
    by_png : (b : Bool) → cond b (parts_mended file parts file) file ≡ file
    by_png true = parts_same file parts
    by_png false = refl
