-- Fields that examples write.
use Rattle.std.specs.Prelude.{ℕ, [], ◌∷◌}
use Rattle.exif_edit.specs.declared.edits.Edit.{Edit}
use Rattle.exif_edit.specs.declared.edits.Edit.TheVariants.{Set}
use Rattle.exif_table.specs.declared.context.Context.TheVariants.{Tiff}
use Rattle.exif_types.specs.declared.field.Field.{Field}
use Rattle.exif_types.specs.declared.value.Value.TheVariants.{Short}

-- the orientation of the primary image (Exif 2.32, 4.6.4, Orientation)
abbrev pub orientation_field : ℕ → Field
orientation_field number = record {
  tag = record { 0 = Tiff; 1 = 0x112 };
  ifd_num = record { 0 = 0 };
  value = Short (number ∷ []);
}

-- the edit that sets it
abbrev pub orientation_edit : ℕ → Edit
orientation_edit number =
    Set (orientation_field number).tag (orientation_field number).ifd_num
    (orientation_field number).value
