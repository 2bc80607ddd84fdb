-- How calls end, as numbers, and their texts.
use Rattle.std.specs.Prelude.{ℕ, ◌==◌, List, [], ◌∷◌, codes, find, Option, Some, None}
use Rattle.exif_types.specs.Failures.{Failure}
use Rattle.exif_types.specs.Refusals as refusals
use Rattle.exif_types.specs.Refusals.{invalid_format, not_found, blank_value, too_big, not_supported, unexpected_value}
use Rattle.exif_types.specs.declared.error.Error.TheVariants as error
use Rattle.exif_edit_base.specs.Causes.{Cause, no_field, no_directory, full_directory, unknown_type, too_long, offset_named, shared, picture, wrong_header, no_data}
use Rattle.exif_edit_base.specs.declared.error.Error.{Error}
use Rattle.exif_edit_base.specs.declared.error.Error.TheVariants as edit
use Rattle.exif_change.specs.Changed.{Undone}
use Rattle.exif_change.specs.Refusals.{Reason, editing, heif_fault, no_date, no_thumbnail, not_of_its_type, out_of_range, reading, second_exif, tiff_fault, unknown_format}
use Rattle.exif_change.specs.Refusals as why
use Rattle.exif_change.specs.declared.refusal.Refusal.{Refusal}
use Rattle.exif_change.specs.declared.refusal.Refusal.TheVariants as change
use Rattle.exif_scrub.specs.declared.tiff.fault.Fault.{Fault}
use Rattle.exif_scrub.specs.declared.tiff.fault.Fault.TheVariants as fault
use Rattle.exif_c.specs.declared.status.Status.{Status}
use Rattle.exif_c.specs.declared.status.Status.TheVariants as status

-- the number of each
abbrev pub number_of : Status → ℕ
number_of status.Well = 0
number_of status.Faults = 1
number_of status.InvalidFormat = 2
number_of status.NotFound = 3
number_of status.BlankValue = 4
number_of status.TooBig = 5
number_of status.NotSupported = 6
number_of status.UnexpectedValue = 7
number_of status.OutOfMemory = 8
number_of status.FieldNotFound = 16
number_of status.UnknownType = 17
number_of status.ValueTooLong = 18
number_of status.NamesOffsets = 19
number_of status.SharedBytes = 20
number_of status.PictureData = 22
number_of status.InvalidHeader = 23
number_of status.NoDirectory = 24
number_of status.FullDirectory = 25
number_of status.NoAssignment = 32
number_of status.NotOfItsType = 33
number_of status.SecondExif = 34
number_of status.NoDate = 35
number_of status.OutOfRange = 36
number_of status.NoThumbnail = 38
number_of status.LocationFound = 39
number_of status.LocationPossible = 40
number_of status.Unstable = 41

-- its text
abbrev pub text_of : Status → List ℕ
text_of status.Well = codes "No error"
text_of status.Faults = codes "Faults were skipped"
text_of status.InvalidFormat = codes "Invalid format"
text_of status.NotFound = codes "No Exif data found"
text_of status.BlankValue = codes "Blank value"
text_of status.TooBig = codes "Too big"
text_of status.NotSupported = codes "Not supported"
text_of status.UnexpectedValue = codes "Unexpected value"
text_of status.OutOfMemory = codes "Out of memory"
text_of status.FieldNotFound = codes "No such field, and it cannot be created"
text_of status.UnknownType = codes "Cannot write unknown field types"
text_of status.ValueTooLong = codes "The value is too long for its space"
text_of status.NamesOffsets = codes "The field holds offsets of other data"
text_of status.SharedBytes = codes "The bytes are shared with other data"
text_of status.PictureData = codes "The picture is in the same data"
text_of status.InvalidHeader = codes "Invalid header of the Exif data"
text_of status.NoDirectory = codes "No directory to put the field into"
text_of status.FullDirectory = codes "The directory has no space for an entry"
text_of status.NoAssignment = codes "Expected TAG=VALUE with a known tag"
text_of status.NotOfItsType = codes "Invalid value for the type of the field"
text_of status.SecondExif = codes "The file has more than one block of Exif data, and only one would be left"
text_of status.NoDate = codes "No date to shift"
text_of status.OutOfRange = codes "The tag cannot have this value"
text_of status.NoThumbnail = codes "No thumbnail"
text_of status.LocationFound = codes "The file holds a location"
text_of status.LocationPossible = codes "The file may hold a location"
text_of status.Unstable = codes "The file would be read otherwise without its metadata"

-- all of them
abbrev pub all : List Status
all =
    status.Well ∷ status.Faults ∷ status.InvalidFormat ∷ status.NotFound ∷ status.BlankValue ∷
    status.TooBig ∷ status.NotSupported ∷ status.UnexpectedValue ∷ status.OutOfMemory ∷
    status.FieldNotFound ∷ status.UnknownType ∷ status.ValueTooLong ∷ status.NamesOffsets ∷
    status.SharedBytes ∷ status.PictureData ∷ status.InvalidHeader ∷
    status.NoDirectory ∷ status.FullDirectory ∷
    status.NoAssignment ∷ status.NotOfItsType ∷ status.SecondExif ∷ status.NoDate ∷
    status.OutOfRange ∷ status.NoThumbnail ∷ status.LocationFound ∷ status.LocationPossible ∷
    status.Unstable ∷ []

-- the one of a number
abbrev pub named : ℕ → Option Status
named number = find (λ it. number_of it == number) all

-- the text of a number
abbrev pub status_text : ℕ → List ℕ
status_text number =
    elim (named number) [ Some it ↦ text_of it | None ↦ codes "Unknown status" ]

-- that of an error of reading; in memory a device's error is out of memory
abbrev pub error_status : Failure → Status
error_status (error.PartialResult partial) = status.Faults
error_status (error.InvalidFormat text) = status.InvalidFormat
error_status (error.NotFound what) = status.NotFound
error_status (error.BlankValue text) = status.BlankValue
error_status (error.TooBig text) = status.TooBig
error_status (error.NotSupported text) = status.NotSupported
error_status (error.UnexpectedValue text) = status.UnexpectedValue
error_status (error.Io cause) = status.OutOfMemory
error_status error.OutOfMemory = status.OutOfMemory

-- that of a refusal, seen as its kind and its text
abbrev pub kind_status : refusals.Refusal → Status
kind_status (invalid_format text) = status.InvalidFormat
kind_status (not_found what) = status.NotFound
kind_status (blank_value text) = status.BlankValue
kind_status (too_big text) = status.TooBig
kind_status (not_supported text) = status.NotSupported
kind_status (unexpected_value text) = status.UnexpectedValue

-- that of a cause for which an edit in place is refused
abbrev pub cause_status : Cause → Status
cause_status no_field = status.FieldNotFound
cause_status no_directory = status.NoDirectory
cause_status full_directory = status.FullDirectory
cause_status unknown_type = status.UnknownType
cause_status too_long = status.ValueTooLong
cause_status offset_named = status.NamesOffsets
cause_status shared = status.SharedBytes
cause_status picture = status.PictureData
cause_status (wrong_header fault) = status.InvalidHeader
cause_status (no_data refusal) = kind_status refusal

-- that of an error of an edit in place
abbrev pub edit_status : Error → Status
edit_status edit.FieldNotFound = status.FieldNotFound
edit_status edit.NoDirectory = status.NoDirectory
edit_status edit.FullDirectory = status.FullDirectory
edit_status edit.UnknownType = status.UnknownType
edit_status edit.ValueTooLong = status.ValueTooLong
edit_status edit.NamesOffsets = status.NamesOffsets
edit_status edit.SharedBytes = status.SharedBytes
edit_status edit.PictureData = status.PictureData
edit_status (edit.Header fault) = status.InvalidHeader
edit_status (edit.Container cause) = error_status cause
edit_status edit.OutOfMemory = status.OutOfMemory

-- that of a TIFF file that is not scrubbed
abbrev pub tiff_status : Fault → Status
tiff_status fault.NoHeader = status.InvalidFormat
tiff_status fault.Broken = status.InvalidFormat
tiff_status fault.TooManyDirectories = status.InvalidFormat
tiff_status fault.OddTag = status.InvalidFormat
tiff_status fault.SharedBytes = status.SharedBytes
tiff_status fault.Raw = status.NotSupported
tiff_status fault.NotSupported = status.NotSupported

-- that of a refusal of a change
abbrev pub refusal_status : Refusal → Status
refusal_status (change.Reading cause) = error_status cause
refusal_status (change.Editing cause) = edit_status cause
refusal_status change.UnknownFormat = status.InvalidFormat
refusal_status change.FieldNotFound = status.FieldNotFound
refusal_status (change.Tiff fault) = tiff_status fault
refusal_status (change.Heif fault) = status.Unstable
refusal_status (change.NotOfItsType tag) = status.NotOfItsType
refusal_status (change.OutOfRange tag) = status.OutOfRange
refusal_status change.SecondExif = status.SecondExif
refusal_status (change.TooLong tag) = status.TooBig
refusal_status change.NoDate = status.NoDate
refusal_status change.NoThumbnail = status.NoThumbnail
refusal_status change.OutOfMemory = status.OutOfMemory

-- that of why a file is not changed
abbrev pub why_status : Reason → Status
why_status (reading refusal) = kind_status refusal
why_status (editing cause) = cause_status cause
why_status unknown_format = status.InvalidFormat
why_status (tiff_fault fault) = tiff_status fault
why_status (heif_fault fault) = status.Unstable
why_status second_exif = status.SecondExif
why_status (why.too_long tag) = status.TooBig
why_status why.no_field = status.FieldNotFound
why_status (not_of_its_type tag) = status.NotOfItsType
why_status (out_of_range tag) = status.OutOfRange
why_status no_date = status.NoDate
why_status no_thumbnail = status.NoThumbnail

-- that of a file that was changed: faults are skipped where something was left undone
abbrev pub undone_status : List (Option Undone) → Status
undone_status [] = status.Well
undone_status (one ∷ others) = status.Faults
