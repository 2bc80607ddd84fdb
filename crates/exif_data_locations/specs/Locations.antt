-- Exif data without their locations, and without those in their thumbnail.
use Rattle.std.specs.Prelude.{ℕ, List, [], ◌∷◌, Ok, Err}
use Rattle.exif_edit_base.specs.EntryLimit.{within_limit}
use Rattle.exif_locations.specs.declared.unread.Unread.{Unread}
use Rattle.exif_data_locations.specs.Erasing.{entry_limit, fields_erased, gps_erased}
use Rattle.exif_data_locations.specs.Thumbnails.{thumbnail_erased}
use Rattle.exif_data_locations.specs.declared.reason.Reason.{Reason}
use Rattle.exif_data_locations.specs.declared.reason.Reason.TheVariants.{NotChanged}

-- Exif data without their locations, and why there may still be one; data with too many entries
-- stay
abbrev pub data_erased : Unread → List ℕ → List ℕ × List Reason
data_erased unread bytes = elim (within_limit entry_limit bytes) [
  | Ok _ ↦ thumbnail_erased unread (fields_erased unread (gps_erased bytes))
  | Err cause ↦ (bytes, NotChanged ∷ [])
]
