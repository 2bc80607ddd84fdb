-- A value set, whatever its length and wherever its field belongs.
use Rattle.std.specs.Prelude.{ℕ, List, [], Result, Ok, Err}
use Rattle.exif_text.specs.declared.ifd.In.{In}
use Rattle.exif_types.specs.declared.tag.Tag.{Tag}
use Rattle.exif_types.specs.declared.value.Value.{Value}
use Rattle.exif_edit_base.specs.Causes.{Cause, no_directory, no_field, shared, too_long}
use Rattle.exif_edit_base.specs.declared.patch.Patch.{Patch}
use Rattle.exif_edit.specs.Setting.{set_patches}
use Rattle.exif_grow.specs.Appending.{append_answer}
use Rattle.exif_grow.specs.Creating.{create_answer}
use Rattle.exif_grow.specs.Growing.{Added, in_place}
use Rattle.exif_grow.specs.Inserting.{insert_answer}

-- where a field's directory is not found, it is created
abbrev pub else_created : List ℕ → Tag → In → Value → Result Added Cause → Result Added Cause
else_created bytes tag k value (Err no_directory) = create_answer bytes tag k value
else_created bytes tag k value answer = answer

-- where a value does not fit over the old one, or not without harm to other data, it is appended;
-- where there is no old one, its field is inserted
abbrev pub else_grown : List ℕ → Tag → In → Value → Result (List Patch) Cause → Result Added Cause
else_grown bytes tag k value (Ok patches) = Ok (in_place patches)
else_grown bytes tag k value (Err too_long) = append_answer bytes tag k value
else_grown bytes tag k value (Err shared) = append_answer bytes tag k value
else_grown bytes tag k value (Err no_field) =
    else_created bytes tag k value (insert_answer bytes tag k value)
else_grown bytes tag k value (Err cause) = Err cause

-- what sets a value, or why that is refused
unfoldable pub grow_answer : List ℕ → Tag → In → Value → Result Added Cause
grow_answer bytes tag k value = else_grown bytes tag k value (set_patches bytes tag k value)
