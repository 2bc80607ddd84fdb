-- One edit of Exif data.
use Rattle.std.specs.Prelude.{ℕ, Bool, false, List, Option, Result, Ok}
use Rattle.exif_edit_base.specs.Causes.{Cause, unless, wrong_header, ◌>>=◌}
use Rattle.exif_edit_base.specs.EntryLimit.{exceeds}
use Rattle.exif_edit_base.specs.Patches.{patched}
use Rattle.exif_edit_base.specs.declared.patch.Patch.{Patch}
use Rattle.exif_tiff.specs.declared.fault.Fault.TheVariants.{TooManyEntries}
use Rattle.exif_edit.specs.Clearing.{IsCleared, clear_patches}
use Rattle.exif_edit.specs.Erasing.{erase_patches}
use Rattle.exif_edit.specs.Promises.{FindsNone, FindsValue, IsErased, IsFieldErased, IsSet}
use Rattle.exif_edit.specs.Removing.{field_patches}
use Rattle.exif_edit.specs.Setting.{set_patches}
use Rattle.exif_edit.specs.declared.edits.Edit.{Edit}
use Rattle.exif_edit.specs.declared.edits.Edit.TheVariants.{Set, EraseGps, EraseField, EraseAll}

-- what an edit puts over data, or why it is refused
abbrev pub edit_patches : Edit → List ℕ → Result (List Patch) Cause
edit_patches (Set tag k value) bytes = set_patches bytes tag k value
edit_patches EraseGps bytes = erase_patches bytes
edit_patches (EraseField tag k) bytes = field_patches bytes tag k
edit_patches EraseAll bytes = clear_patches bytes

-- the data with them
abbrev pub edited : Edit → List ℕ → Result (List ℕ) Cause
edited edit bytes = edit_patches edit bytes >>= λ patches. Ok (patched patches bytes)

-- whether an edit would read more entries than a limit: all fields are erased without a reading
abbrev pub reads_past : Option ℕ → Edit → List ℕ → Bool
reads_past limit (Set tag k value) bytes = exceeds limit bytes
reads_past limit EraseGps bytes = exceeds limit bytes
reads_past limit (EraseField tag k) bytes = exceeds limit bytes
reads_past limit EraseAll bytes = false

-- nothing, unless it would
abbrev pub allowed : Option ℕ → Edit → List ℕ → Result (Unit {0}) Cause
allowed limit edit bytes = unless (reads_past limit edit bytes) (wrong_header TooManyEntries)

-- what an edit puts over data under a limit on their entries
abbrev pub limited_patches : Option ℕ → Edit → List ℕ → Result (List Patch) Cause
limited_patches limit edit bytes = allowed limit edit bytes >>= λ a. edit_patches edit bytes

-- the data with them
abbrev pub limited_edit : Option ℕ → Edit → List ℕ → Result (List ℕ) Cause
limited_edit limit edit bytes = allowed limit edit bytes >>= λ a. edited edit bytes

-- what is promised of edited data
abbrev pub IsEdited : Edit → List ℕ → List ℕ → Type 0
IsEdited (Set tag k value) old new = IsSet old tag k value new × FindsValue tag k value new
IsEdited EraseGps old new = IsErased old new
IsEdited (EraseField tag k) old new = IsFieldErased old tag k new × FindsNone tag k new
IsEdited EraseAll old new = IsCleared old new
