-- Worked examples: what the fields of a picture say, and which files are refused.
use Rattle.std.specs.Prelude.{◌≡◌, refl, [], ◌∷◌, None, Some, Ok, Err}
use Rattle.exif_containers.specs.declared.container.Format.TheVariants.{Heif, Tiff}
use Rattle.exif_formats.specs.declared.format.PictureFormat.TheVariants.{Container, Orf}
use Rattle.exif_types.specs.declared.value.Value.TheVariants.{Long}
use Rattle.exif_copy.specs.Found.{data_found, raw_refused, tiff_refused}
use Rattle.exif_copy.specs.Placed.{placed, target_refused}
use Rattle.exif_copy.specs.Shaped.{fitted, orientation, size_for, upright_unless}

-- ---- orientations and sizes

-- 6 and 8 are orientations; 0 and 9 are reserved
turned : upright_unless (Some 6) ≡ 6
turned = refl

eighth : upright_unless (Some 8) ≡ 8
eighth = refl

none_yet : upright_unless (Some 0) ≡ 1
none_yet = refl

reserved : upright_unless (Some 9) ≡ 1
reserved = refl

untold : upright_unless None ≡ 1
untold = refl

width : size_for (Some 1920) ≡ Some (Long (1920 ∷ []))
width = refl

no_width : size_for None ≡ None
no_width = refl

-- a field that data lack is neither set nor erased
lacking : fitted [] orientation None (77 ∷ 77 ∷ []) ≡ Ok (77 ∷ 77 ∷ [])
lacking = refl

-- ---- files

whole_file : data_found (Some (Container Tiff)) [] ≡ Err tiff_refused
whole_file = refl

raw_file : data_found (Some Orf) [] ≡ Err raw_refused
raw_file = refl

no_target : placed (Some (Container Heif)) [] [] ≡ Err target_refused
no_target = refl
