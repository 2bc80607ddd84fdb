-- What becomes of a picture that is scrubbed, by its format.
use Rattle.std.specs.Prelude.{ℕ, List, [], ◌∷◌, ◌++◌, codes, take, Option, Some, None, Result, Ok, Err, if◌then◌else◌}
use Rattle.exif_formats.specs.Formats.{format_in}
use Rattle.exif_formats.specs.declared.format.PictureFormat.{PictureFormat}
use Rattle.exif_formats.specs.declared.format.PictureFormat.TheVariants as format
use Rattle.exif_inventory.specs.Walks.{inventory}
use Rattle.exif_locations.specs.declared.unread.Unread.{Unread}
use Rattle.exif_privacy.specs.Erasing as privacy
use Rattle.exif_rewrite.specs.Color.{colorless}
use Rattle.exif_types.specs.Refusals.{invalid_format, not_supported}
use Rattle.exif_change.specs.Changed.{Change, cut_off, whole}
use Rattle.exif_change.specs.Changes.{if_parted, keeps_orientation, scrubbed, scrubbed_with_color, with_color}
use Rattle.exif_change.specs.Notes as notes
use Rattle.exif_change.specs.Refusals.{Reason, reading}
use Rattle.exif_change.specs.declared.notes.Color.{Color}
use Rattle.exif_change.specs.declared.notes.Note.{Note}
use Rattle.exif_change.specs.declared.notes.Note.TheVariants.{OwnRotation}
use Rattle.exif_change.specs.declared.scrubbing.Removed.{Removed}
use Rattle.exif_change.specs.declared.scrubbing.Removed.TheVariants as removed
use Rattle.exif_change.specs.Codestreams.{codestream_of}
use Rattle.exif_change.specs.JxlChanges.{jxl_emptied}
use Rattle.exif_change.specs.PngChanges.{png_emptied, png_unlocated}
use Rattle.exif_change.specs.Rotation.{file_turned, if_turned, png_turned}
use Rattle.exif_change.specs.declared.codestream.Codestream.{Codestream}
use Rattle.exif_change.specs.declared.codestream.Codestream.TheVariants as codestream

-- the format of a file, by its first 4096 bytes
abbrev pub format_of : List ℕ → Option PictureFormat
format_of file = format_in (take 4096 file)

-- raw files are not scrubbed
abbrev pub raw_refused : Reason
raw_refused =
    reading (not_supported (codes "raw files are not changed; export a picture and scrub that"))

-- a PNG file without what is removed
abbrev pub png_scrubbed : Removed → List ℕ → Result Change Reason
png_scrubbed (removed.Gps unread) file = png_unlocated unread file
png_scrubbed removed.Metadata file = png_emptied removed.Metadata file
png_scrubbed removed.AllButOrientation file = png_emptied removed.AllButOrientation file

-- a JPEG XL file without the locations of its parts, and what may still hold one; a codestream
-- without a container has no parts
abbrev pub jxl_unlocated : Unread → List ℕ → Result Change Reason
jxl_unlocated unread file = elim (inventory file) [
  | Some parts ↦ if_parted (privacy.erased unread file)
  | None ↦ Ok (whole file)
]

-- a JPEG XL file without what is removed; its picture keeps its own orientation
abbrev pub jxl_without : Removed → List ℕ → Result Change Reason
jxl_without (removed.Gps unread) file = jxl_unlocated unread file
jxl_without removed.Metadata file = jxl_emptied file
jxl_without removed.AllButOrientation file = jxl_emptied file

-- a container without a codestream is refused
abbrev pub no_codestream : Reason
no_codestream = reading (invalid_format (codes "JPEG XL file without a codestream"))

-- a change of a file that is cut off
abbrev pub if_cut_off : Result Change Reason → Result Change Reason
if_cut_off (Ok change) =
    Ok (record { file = change.file; undone = change.undone ++ Some cut_off ∷ [] })
if_cut_off (Err why) = Err why

-- a change of a JPEG XL file, by how much of its codestream it has
abbrev pub by_codestream : Codestream → Result Change Reason → Result Change Reason
by_codestream codestream.Absent change = Err no_codestream
by_codestream codestream.CutOff change = if_cut_off change
by_codestream codestream.Whole change = change

-- a JPEG XL file without what is removed, if it has a codestream
abbrev pub jxl_scrubbed : Removed → List ℕ → Result Change Reason
jxl_scrubbed removed file = by_codestream (codestream_of file) (jxl_without removed file)

-- a file without what is removed
abbrev pub scrubbed_by : Option PictureFormat → Removed → List ℕ → Result Change Reason
scrubbed_by None removed file = scrubbed removed file
scrubbed_by (Some (format.Container known)) removed file = scrubbed removed file
scrubbed_by (Some format.Png) removed file = png_scrubbed removed file
scrubbed_by (Some format.JpegXl) removed file = jxl_scrubbed removed file
scrubbed_by (Some raw) removed file = Err raw_refused

abbrev pub picture_scrubbed : Removed → List ℕ → Result Change Reason
picture_scrubbed removed file = scrubbed_by (format_of file) removed file

-- a PNG file without its colour profile, and without what is removed beside it
abbrev pub png_with_color : Removed → List ℕ → Result Change Reason
png_with_color removed file = elim (colorless file) [
  | Some new ↦ png_scrubbed removed new
  | None ↦ with_color (png_scrubbed removed file)
]

-- a file without its colour profile, which JPEG XL files keep, and without what is removed
abbrev pub color_scrubbed_by : Option PictureFormat → Removed → List ℕ → Result Change Reason
color_scrubbed_by None removed file = scrubbed_with_color removed file
color_scrubbed_by (Some (format.Container known)) removed file = scrubbed_with_color removed file
color_scrubbed_by (Some format.Png) removed file = png_with_color removed file
color_scrubbed_by (Some format.JpegXl) removed file = with_color (jxl_scrubbed removed file)
color_scrubbed_by (Some raw) removed file = Err raw_refused

abbrev pub picture_scrubbed_with_color : Removed → List ℕ → Result Change Reason
picture_scrubbed_with_color removed file = color_scrubbed_by (format_of file) removed file

-- the notes on a file that is scrubbed: a JPEG XL file keeps the orientation of its picture, and
-- that of other files goes with their Exif data
abbrev pub notes_by : Option PictureFormat → Removed → Color → List ℕ → List Note
notes_by (Some format.JpegXl) removed color file =
    if keeps_orientation removed then OwnRotation ∷ [] else []
notes_by None removed color file =
    notes.scrub_notes removed color file ++ if_turned removed (file_turned file)
notes_by (Some (format.Container known)) removed color file =
    notes.scrub_notes removed color file ++ if_turned removed (file_turned file)
notes_by (Some format.Png) removed color file =
    notes.scrub_notes removed color file ++ if_turned removed (png_turned file)
notes_by (Some raw) removed color file = notes.scrub_notes removed color file

abbrev pub picture_notes : Removed → Color → List ℕ → List Note
picture_notes removed color file = notes_by (format_of file) removed color file
