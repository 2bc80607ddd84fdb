-- Whether a picture will be shown otherwise without its Exif data, by its orientation.
use Rattle.std.specs.Prelude.{ℕ, nat_lt, ◌&&◌, not, Bool, true, false, List, [], ◌∷◌, Option, Some, None, Result, Ok, Err}
use Rattle.exif_change.specs.Notes.{is_heif}
use Rattle.exif_change.specs.Reading.{Contents, file_contents}
use Rattle.exif_change.specs.declared.notes.Note.{Note}
use Rattle.exif_change.specs.declared.notes.Note.TheVariants.{Orientation}
use Rattle.exif_change.specs.declared.scrubbing.Removed.{Removed}
use Rattle.exif_change.specs.declared.scrubbing.Removed.TheVariants as removed
use Rattle.exif_containers.specs.Container.{format_in}
use Rattle.exif_formats.specs.Pictures.{png_data}
use Rattle.exif_summary.specs.Finding.{orientation_of}
use Rattle.exif_types.specs.Refusals.{Refusal}

-- whether an orientation is other than upright, which is 1 (Exif 2.32, 4.6.4, Orientation)
abbrev pub is_turned : Option ℕ → Bool
is_turned (Some orientation) = nat_lt 1 orientation
is_turned None = false

-- whether the fields that were read name such a one
abbrev pub has_turned : Result Contents Refusal → Bool
has_turned (Ok contents) = is_turned (orientation_of contents.fields)
has_turned (Err refusal) = false

-- whether the Exif data of a JPEG, WebP or TIFF file do; a HEIF file has its own rotation
-- (ISO/IEC 23008-12, 6.5.10)
abbrev pub file_turned : List ℕ → Bool
file_turned file = not (is_heif (format_in file)) && has_turned (file_contents file)

-- whether those of a PNG file do
abbrev pub data_turned : Result (List ℕ) Refusal → Bool
data_turned (Ok data') = has_turned (file_contents data')
data_turned (Err refusal) = false

abbrev pub png_turned : List ℕ → Bool
png_turned file = data_turned (png_data file)

-- the note of an orientation that is removed
abbrev pub if_turned : Removed → Bool → List Note
if_turned removed.Metadata true = Orientation ∷ []
if_turned removed.Metadata false = []
if_turned removed.AllButOrientation turned = []
if_turned (removed.Gps unread) turned = []
