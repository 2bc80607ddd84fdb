-- Metadata taken out of files.
use Rattle.std.specs.Prelude.{ℕ, Bool, true, false, List, [], ◌∷◌, ◌++◌, map, is_some, Option, None, Some, Result, Ok, Err}
use Rattle.exif_table.specs.declared.context.Context.TheVariants as context
use Rattle.exif_types.specs.Refusals.{Refusal, not_found}
use Rattle.exif_containers.specs.Container.{format_in}
use Rattle.exif_containers.specs.declared.container.Format.{Format}
use Rattle.exif_containers.specs.declared.container.Format.TheVariants.{Tiff, Jpeg, Heif, WebP}
use Rattle.exif_segments.specs.declared.remove.Remove.TheVariants.{Metadata}
use Rattle.exif_edit_base.specs.Causes.{Cause, no_data}
use Rattle.exif_edit.specs.declared.edits.Edit.{Edit}
use Rattle.exif_edit.specs.declared.edits.Edit.TheVariants.{EraseAll, EraseGps}
use Rattle.exif_edit.specs.InFiles.{edited_file}
use Rattle.exif_rewrite.specs.Color.{colorless}
use Rattle.exif_rewrite.specs.ScrubbedExif.{scrubbed_answer, wanted}
use Rattle.exif_types.specs.declared.tag.Tag.{Tag}
use Rattle.exif_inventory.specs.declared.part.Part.{Part}
use Rattle.exif_privacy.specs.Erasing as privacy
use Rattle.exif_privacy.specs.declared.remaining.Remaining.{Remaining}
use Rattle.exif_locations.specs.declared.unread.Unread.{Unread}
use Rattle.exif_scrub.specs.HeifScrubbing as heif
use Rattle.exif_scrub.specs.declared.heif.fault.Fault as heif_faults
use Rattle.exif_scrub.specs.TiffScrubbing as tiff
use Rattle.exif_scrub.specs.declared.tiff.fault.Fault.{Fault}
use Rattle.exif_change.specs.Changed.{Change, color_kept, stays, whole}
use Rattle.exif_change.specs.Found.{loose_parts, with_found, with_parts}
use Rattle.exif_change.specs.Reading.{Contents, entry_limit, file_contents}
use Rattle.exif_change.specs.Refusals.{Reason, as_read, editing, heif_fault, tiff_fault, unknown_format, ◌>>=◌}
use Rattle.exif_change.specs.Rewriting.{rewritten}
use Rattle.exif_change.specs.declared.scrubbing.Removed.{Removed}
use Rattle.exif_change.specs.declared.scrubbing.Removed.TheVariants as removed

-- a file whose Exif data were edited, or that has none and is as it was
abbrev pub if_edited : List ℕ → Result (List ℕ) Cause → Result Change Reason
if_edited old (Ok new) = Ok (whole new)
if_edited old (Err (no_data (not_found what))) = Ok (whole old)
if_edited old (Err cause) = Err (editing cause)

-- a file with its fields erased by an edit
abbrev pub erased : Edit → List ℕ → Result Change Reason
erased edit file = if_edited file (edited_file entry_limit edit file)

-- what a picture needs to be shown upright: its orientation (Exif 2.32, 4.6.4 A)
abbrev pub upright : List Tag
upright = (context.Tiff, 0x112) ∷ []

-- Exif data that hold the orientation alone, if the file tells it
abbrev pub orientation_in : Result Contents Refusal → Result (Option (List ℕ)) Refusal
orientation_in (Ok contents) = scrubbed_answer contents.order (wanted upright contents.fields)
orientation_in (Err refusal) = Ok None

-- what is put in place of the metadata that are taken out
abbrev pub kept : Removed → List ℕ → Result (Option (List ℕ)) Reason
kept removed.AllButOrientation file = as_read (orientation_in (file_contents file))
kept removed.Metadata file = Ok None
kept (removed.Gps unread) file = Ok None

-- a JPEG or WebP file without its metadata, but for what is kept
abbrev pub without_metadata : Format → Removed → List ℕ → Result Change Reason
without_metadata format removed file =
    kept removed file
    >>= λ put. with_found (is_some put) (as_read (rewritten format Metadata put file))

-- a JPEG file without its metadata, with what the old one has between its segments behind parts that
-- went
abbrev pub jpeg_emptied : Removed → List ℕ → Result Change Reason
jpeg_emptied removed file = with_parts (loose_parts file) (without_metadata Jpeg removed file)

-- a change of a HEIF file with the parts that stay, or why it is refused
abbrev pub heif_left : Change → Result (List Part) heif_faults.Fault → Result Change Reason
heif_left change (Ok parts) = with_parts parts (Ok change)
heif_left change (Err fault) = Err (heif_fault fault)

-- a HEIF file whose metadata were taken out, if it is one, with what its Exif data say erased too,
-- and the parts that then stay
abbrev pub heif_emptied : Bool × List ℕ → Result Change Reason
heif_emptied (false, file) = erased EraseAll file
heif_emptied (true, file) =
    erased EraseAll file >>= λ change. heif_left change (heif.settled change.file)

-- whether the orientation stays
abbrev pub keeps_orientation : Removed → Bool
keeps_orientation removed.AllButOrientation = true
keeps_orientation removed.Metadata = false
keeps_orientation (removed.Gps unread) = false

-- a TIFF file whose metadata were taken out, or why not
abbrev pub tiff_emptied : Result (List ℕ) Fault → Result Change Reason
tiff_emptied (Ok new) = Ok (whole new)
tiff_emptied (Err fault) = Err (tiff_fault fault)

-- a file without its metadata, by its format: rewritten, or changed in place
abbrev pub emptied : Format → Removed → List ℕ → Result Change Reason
emptied Jpeg removed file = jpeg_emptied removed file
emptied WebP removed file = without_metadata WebP removed file
emptied Heif removed file = heif_emptied (heif.emptied file)
emptied Tiff removed file = tiff_emptied (tiff.scrubbed (keeps_orientation removed) file)

-- a file without the locations of its parts, and those that may still hold one; a file of which no
-- parts are known without its GPS data
abbrev pub if_parted : List ℕ × Option (List Remaining) → Result Change Reason
if_parted (new, Some parts) =
    Ok (record { file = new; undone = map (λ part. Some (stays part)) parts })
if_parted (new, None) = erased EraseGps new

-- a file whose GPS data were erased, or as it was where they can't be
abbrev pub gps_erased : List ℕ → List ℕ
gps_erased file = elim (edited_file entry_limit EraseGps file) [ Ok new ↦ new | Err cause ↦ file ]

-- a file without locations, by its format
abbrev pub unlocated : Unread → Format → List ℕ → Result Change Reason
unlocated unread Jpeg file = if_parted (privacy.erased unread file)
unlocated unread WebP file = if_parted (privacy.erased unread file)
unlocated unread Tiff file = if_parted (privacy.erased unread file)
unlocated unread Heif file = if_parted (privacy.erased unread (gps_erased file))

-- a file of a format without what is taken out
abbrev pub scrubbed_as : Format → Removed → List ℕ → Result Change Reason
scrubbed_as format (removed.Gps unread) file = unlocated unread format file
scrubbed_as format removed.Metadata file = emptied format removed.Metadata file
scrubbed_as format removed.AllButOrientation file = emptied format removed.AllButOrientation file

-- a file without what is taken out
abbrev pub scrubbed : Removed → List ℕ → Result Change Reason
scrubbed removed file = elim (format_in file) [
  | Some format ↦ scrubbed_as format removed file
  | None ↦ Err unknown_format
]

-- a change that left the colour profile too
abbrev pub with_color : Result Change Reason → Result Change Reason
with_color (Ok change) =
    Ok (record { file = change.file; undone = change.undone ++ Some color_kept ∷ [] })
with_color (Err why) = Err why

-- a file without its colour profile, which HEIF and TIFF files keep, and without what is removed
abbrev pub scrubbed_with_color : Removed → List ℕ → Result Change Reason
scrubbed_with_color removed file = elim (colorless file) [
  | Some new ↦ scrubbed removed new
  | None ↦ with_color (scrubbed removed file)
]
