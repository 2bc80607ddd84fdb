-- Why a file is not changed, and what was left undone in it, in words.
use Rattle.std.specs.Prelude.{ℕ, List, ◌++◌, codes, true, false, Bool, Option, Some}
use Rattle.std.specs.Option.{option_map}
use Rattle.std.specs.Fmt.{decimal}
use Rattle.exif_types.specs.Failures as reading
use Rattle.exif_types.specs.TagTexts.{tag_text}
use Rattle.exif_edit_base.specs.Causes as editing
use Rattle.exif_datetime.specs.declared.shift.Unmoved.{Unmoved}
use Rattle.exif_datetime.specs.declared.shift.Unmoved.TheVariants.{Blank, Invalid, OutOfRange}
use Rattle.exif_inventory.specs.KindTexts.{kind_text}
use Rattle.exif_privacy.specs.Parts.{can_be_blanked}
use Rattle.exif_privacy.specs.RemainingTexts.{stays_text}
use Rattle.exif_scrub.specs.HeifFaultTexts as heif
use Rattle.exif_scrub.specs.TiffFaultTexts as tiff
use Rattle.exif_change.specs.declared.changed.Residual.{Residual}
use Rattle.exif_change.specs.declared.changed.Residual.TheVariants as left
use Rattle.exif_change.specs.declared.refusal.Refusal.{Refusal}
use Rattle.exif_change.specs.declared.refusal.Refusal.TheVariants as refusal

-- why a file is not changed; the text of a device's own error is not known
abbrev pub refusal_text : Refusal → Option (List ℕ)
refusal_text (refusal.Reading e) = reading.error_text e
refusal_text (refusal.Editing e) = editing.error_text e
refusal_text refusal.UnknownFormat = Some (codes "Unknown image format")
refusal_text (refusal.Tiff fault) = Some (tiff.fault_text fault)
refusal_text (refusal.Heif fault) = Some (heif.fault_text fault)
refusal_text refusal.SecondExif =
    Some (codes "The file has more than one block of Exif data, and only one would be left")
refusal_text (refusal.TooLong tag) = Some (tag_text tag
    ++ codes " is too long: the Exif data of a JPEG file have at most 65,527 bytes")
refusal_text refusal.FieldNotFound = Some (codes "No such field, and it cannot be created")
refusal_text (refusal.NotOfItsType tag) =
    Some (codes "Invalid value for the type of " ++ tag_text tag)
refusal_text (refusal.OutOfRange tag) = Some (tag_text tag ++ codes " cannot have this value")
refusal_text refusal.NoDate = Some (codes "No date to shift")
refusal_text refusal.NoThumbnail = Some (codes "No thumbnail")
refusal_text refusal.OutOfMemory = Some (codes "Out of memory")

-- why the date of a tag is not moved, behind the tag's name
abbrev pub unmoved_text : Unmoved → List ℕ
unmoved_text Blank = codes " is blank and was not moved"
unmoved_text Invalid = codes " is not a date of the calendar and was not moved"
unmoved_text OutOfRange = codes " would leave the years 0 to 9999 and was not moved"

-- how a part that may still hold a location can be blanked, if it can be
abbrev pub blanking_text : Bool → List ℕ → List ℕ
blanking_text true text = text ++ codes "; --force-blank blanks it"
blanking_text false text = text

-- what was left undone in a changed file
abbrev pub left_text : Residual → Option (List ℕ)
left_text (left.Date tag why) = Some (tag_text tag ++ unmoved_text why)
left_text (left.Edit tag e) =
    option_map (λ cause. tag_text tag ++ (codes " was not moved: " ++ cause)) (editing.error_text e)
left_text left.CutOff = Some (codes "The file is cut off")
left_text (left.Remaining s) = Some (blanking_text (can_be_blanked s.why) (stays_text s))
left_text (left.Part part) = Some (codes "still there: " ++ (kind_text part.kind
    ++ (codes " at offset " ++ (decimal part.offset ++ codes ", which may hold metadata"))))
left_text left.Color = Some (codes "the colour profile stays in files of this format")
left_text left.OtherDates = Some (codes "dates in its XMP or IPTC data are not changed")
