-- What is left undone where a picture gets another location, in words.
use Rattle.std.specs.Prelude.{◌≡◌, refl, ℕ, List, ◌++◌, codes, Option, Some}
use Rattle.exif_table.specs.declared.context.Context.TheVariants.{Gps}
use Rattle.exif_types.specs.TagRows.{row_of_tag}
use Rattle.exif_types.specs.TagTexts.{tag_text}
use Rattle.exif_change.specs.Texts.{left_text}
use Rattle.exif_change.specs.declared.changed.Residual.TheVariants as left
use Rattle.exif_geotag.specs.declared.relocating.Unfinished.{Unfinished}
use Rattle.exif_geotag.specs.declared.relocating.Unfinished.TheVariants.{Change, Old}

-- what was left undone
abbrev pub unfinished_text : Unfinished → Option (List ℕ)
unfinished_text (Change left) = left_text left
unfinished_text (Old tag) =
    Some (tag_text tag ++ codes " is of the old location, and stays: it cannot be taken out")

-- ---- by texts written by hand

cut_off : unfinished_text (Change left.CutOff) ≡ Some (codes "The file is cut off")
cut_off = refl

-- the altitude (Exif 2.32, 4.6.6)
old_altitude : unfinished_text (Old (record { 0 = Gps; 1 = 6 }))
    ≡ Some (codes "GPSAltitude is of the old location, and stays: it cannot be taken out")
unfolding row_of_tag
old_altitude = refl
