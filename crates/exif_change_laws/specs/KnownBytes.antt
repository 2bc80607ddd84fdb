-- What each byte of a scrubbed file is.
use Rattle.std.specs.Prelude.{◌≡◌, ◌⊎◌, ◌<◌, ◌≤◌, ◌+◌, ℕ, not, Bool, true, false, List, length, Contains, Option, None, Some, Ok}
use Rattle.exif_containers.specs.Container as containers
use Rattle.exif_formats.specs.Jxl.{begins_codestream}
use Rattle.exif_formats.specs.declared.format.PictureFormat.{PictureFormat}
use Rattle.exif_formats.specs.declared.format.PictureFormat.TheVariants as format
use Rattle.exif_inventory.specs.Promises.{AreInOrder}
use Rattle.exif_inventory.specs.declared.part.Part.{Part}
use Rattle.exif_lengths.specs.Walks.{measured_inventory}
use Rattle.exif_change.specs.Changed.{Change, still_there}
use Rattle.exif_change.specs.Changes.{keeps_orientation}
use Rattle.exif_change.specs.Found.{belongs}
use Rattle.exif_change.specs.Pictures.{format_of, picture_scrubbed}
use Rattle.exif_change.specs.declared.scrubbing.Removed.{Removed}
use Rattle.exif_change_laws.specs.Leaving.{takes_metadata}
use Rattle.exif_change_laws.specs.Scrubbed.{is_written_again}

-- whether a file of a format is written again where its metadata are taken out: JPEG, WebP and PNG
-- files, and JPEG XL files with boxes
abbrev pub is_made_anew : List ℕ → Option PictureFormat → Bool
is_made_anew file None = is_written_again (containers.format_in file)
is_made_anew file (Some (format.Container known)) = is_written_again (containers.format_in file)
is_made_anew file (Some format.Png) = true
is_made_anew file (Some format.JpegXl) = not (begins_codestream file)
is_made_anew file (Some raw) = false

-- such a file was scrubbed, maybe but for the orientation, and these are the parts of the new one,
-- one behind the other, up to its end
pub record MadeAnew : Type 0 where
  pub removed : Removed
  pub file : List ℕ
  pub change : Change
  pub parts : List Part
  pub takes : takes_metadata removed ≡ true
  pub anew : is_made_anew file (format_of file) ≡ true
  pub made : picture_scrubbed removed file ≡ Ok change
  pub listed : measured_inventory change.file ≡ Some parts
  pub whole : AreInOrder 0 parts (length change.file)

-- a byte is one of this part
abbrev pub IsIn : Part → ℕ → Type 0
IsIn part i = (part.offset ≤ i) × (i < part.offset + part.len)

-- a part belongs to a file without metadata, or was answered as left
abbrev pub IsTold : Bool → Change → Part → Type 0
IsTold put change part = (belongs put part ≡ true) ⊎ Contains change.undone (Some (still_there part))

-- each byte is one of such a part
abbrev pub EachByteIsTold : MadeAnew → Type 0
EachByteIsTold s =
    (i : ℕ) → i < length s.change.file
    → (part : Part) × Contains s.parts part × IsIn part i
    × IsTold (keeps_orientation s.removed) s.change part
