-- What becomes of a PNG or a JPEG XL file whose Exif data are changed as a TIFF file is, and put into
-- it again.
use Rattle.std.specs.Prelude.{ℕ, List, [], ◌∷◌, Option, None, Some, Result, Ok, Err}
use Rattle.exif_formats.specs.Pictures.{png_data}
use Rattle.exif_segments.specs.declared.remove.Remove.TheVariants as remove
use Rattle.exif_types.specs.Refusals as types
use Rattle.exif_types.specs.Refusals.{not_found}
use Rattle.exif_types.specs.declared.field.Field.{Field}
use Rattle.exif_change.specs.Changed.{Change, whole}
use Rattle.exif_setting.specs.Fields.{fields_set}
use Rattle.exif_setting.specs.Growing.{new_data}
use Rattle.exif_change.specs.Refusals.{Reason, as_read, reading, ◌>>=◌}
use Rattle.exif_setting.specs.Setting.{assigned_behind, set_file}
use Rattle.exif_setting.specs.Shifting.{shifted}
use Rattle.exif_setting.specs.Edits.{Edit, the_values, the_fields, the_shift}
use Rattle.exif_change.specs.JxlChanges as jxl
use Rattle.exif_change.specs.JxlChanges.{jxl_data}
use Rattle.exif_change.specs.PngChanges as png
use Rattle.exif_setting.specs.declared.contained.Container.{Container}
use Rattle.exif_setting.specs.declared.contained.Container.TheVariants.{Png, Jxl}

-- the Exif data of a file
abbrev pub contained : Container → List ℕ → Result (List ℕ) types.Refusal
contained Png file = png_data file
contained Jxl file = jxl_data file

-- a file with these Exif data in place of its own
abbrev pub put_data : Container → List ℕ → List ℕ → Result (List ℕ) Reason
put_data Png file data' = png.rewritten remove.Exif (Some data') file
put_data Jxl file data' = jxl.rewritten remove.Exif (Some data') file

-- the same with the answer of a change of its Exif data
abbrev pub put_change : Container → List ℕ → Change → Result Change Reason
put_change container file change =
    put_data container file change.file
    >>= λ new. Ok (record { file = new; undone = change.undone })

-- new Exif data that hold fields, or none
abbrev pub data_with : List Field → Result (Option (List ℕ)) Reason
data_with [] = Ok None
data_with (field ∷ fields) = as_read (new_data (field ∷ fields)) >>= λ data'. Ok (Some data')

-- a file that has no Exif data with new ones, if there are some
abbrev pub put_new : Container → List ℕ → Option (List ℕ) → Result Change Reason
put_new container file None = Ok (whole file)
put_new container file (Some data') = put_data container file data' >>= λ new. Ok (whole new)

-- TIFF data, or a file that the reader knows, with its Exif data changed
abbrev pub data_changed : Edit → List ℕ → Result Change Reason
data_changed (the_values assignments) file = set_file assignments file
data_changed (the_fields all) file = fields_set all file
data_changed (the_shift by dates) file = shifted by dates file

-- the new Exif data of a file that has none, in which no dates are moved
abbrev pub new_data_for : Edit → List ℕ → Result (Option (List ℕ)) Reason
new_data_for (the_values assignments) what =
    assigned_behind [] assignments ([], []) >>= λ sets. data_with sets.0
new_data_for (the_fields all) what = data_with all
new_data_for (the_shift by dates) what = Err (reading (not_found what))

-- a file that has no Exif data with new ones
abbrev pub created : Container → Edit → List ℕ → List ℕ → Result Change Reason
created container edit what file = new_data_for edit what >>= put_new container file

-- a file with its Exif data changed, by what they are
abbrev pub edited_data : Container → Edit → List ℕ → Result (List ℕ) types.Refusal
    → Result Change Reason
edited_data container edit file (Ok data') = data_changed edit data' >>= put_change container file
edited_data container edit file (Err (not_found what)) = created container edit what file
edited_data container edit file (Err refusal) = Err (reading refusal)

-- a file with its Exif data changed
abbrev pub edited_in : Container → Edit → List ℕ → Result Change Reason
edited_in container edit file = edited_data container edit file (contained container file)
