-- The end of walks over fields and the offsets of their entries.
use Rattle.std.proofs.Common.{◌≡◌, ◌-◌, ℕ, min, List, [], ◌∷◌, ◌++◌, length, take, drop, refl, ap, ◌∙◌, arith, length-drop}
use Rattle.std.proofs.lemmas.List.{take-append-drop}
use Rattle.exif_base.specs.Bytes.{Reading}
use Rattle.exif_types.specs.declared.field.Field.{Field}
use Rattle.exif_tiff.specs.declared.offset.EntryOffset.{EntryOffset}
use Rattle.exif_data_locations.specs.FieldRegions.{all_regions}
use Rattle.exif_data_locations.specs.Wanted.{wanted_fields}

-- one of the two lists that are left is empty
none_left : (fs : List Field) (es : List EntryOffset) (n : ℕ) → n ≡ min (length fs) (length es)
    → min (length (drop n fs)) (length (drop n es)) ≡ 0
none_left fs es n h =
    let f : length (drop n fs) ≡ length fs - n = length-drop n fs in
    let e : length (drop n es) ≡ length es - n = length-drop n es in
    omega arith

no_regions : (number : Reading) (bytes : List ℕ) (fs : List Field) (es : List EntryOffset)
    → min (length fs) (length es) ≡ 0 → all_regions number bytes fs es ≡ []
no_regions number bytes [] es h = refl
no_regions number bytes (f ∷ fs) [] h = refl
no_regions number bytes (f ∷ fs) (e ∷ es) h = absurd (omega arith)

-- no more regions
pub regions_over : (number : Reading) (bytes : List ℕ) (fs : List Field) (es : List EntryOffset) (n : ℕ)
    → n ≡ min (length fs) (length es) → all_regions number bytes (drop n fs) (drop n es) ≡ []
regions_over number bytes fs es n h =
    no_regions number bytes (drop n fs) (drop n es) (none_left fs es n h)

all_stay : (number : Reading) (old new : List ℕ) (es : List EntryOffset) (fs : List Field)
    → min (length fs) (length es) ≡ 0 → wanted_fields number old new es fs ≡ fs
all_stay number old new [] [] h = refl
all_stay number old new (e ∷ es) [] h = refl
all_stay number old new [] (f ∷ fs) h = refl
all_stay number old new (e ∷ es) (f ∷ fs) h = absurd (omega arith)

-- the fields that are left stay
pub wanted_over : (number : Reading) (old new : List ℕ) (es : List EntryOffset) (fs : List Field) (n : ℕ)
    → n ≡ min (length fs) (length es)
    → take n fs ++ wanted_fields number old new (drop n es) (drop n fs) ≡ fs
wanted_over number old new es fs n h =
    ap (λ xs. take n fs ++ xs)
    (all_stay number old new (drop n es) (drop n fs) (none_left fs es n h))
    ∙ take-append-drop n fs
