-- What is done with a file that was found in a folder.
use Rattle.std.specs.Prelude.{ℕ, Bool, true, false, if◌then◌else◌, List, ◌++◌, codes, Option, None, Some}
use Rattle.exif_decisions.specs.Endings.{ending_text}
use Rattle.exif_decisions.specs.Unsupported.{format_text}
use Rattle.exif_decisions.specs.declared.endings.Ending.{Ending}
use Rattle.exif_decisions.specs.declared.endings.Ending.TheVariants as ending
use Rattle.exif_decisions.specs.declared.formats.Unsupported.{Unsupported}
use Rattle.exif_decisions.specs.declared.formats.Unsupported.TheVariants as format
use Rattle.exif_decisions.specs.declared.found.Found.{Found}
use Rattle.exif_decisions.specs.declared.found.Found.TheVariants as found
use Rattle.exif_decisions.specs.declared.found.FoundStep.{FoundStep}
use Rattle.exif_decisions.specs.declared.found.FoundStep.TheVariants.{Choose, Beside, Skip}
use Rattle.exif_decisions.specs.declared.found.NotRead.{NotRead}
use Rattle.exif_decisions.specs.declared.found.NotRead.TheVariants.{Format, Damaged, Empty, Sidecar}

-- Why a file without a signature that is known is not read. A sidecar is one whatever its bytes
-- are, and an empty file is said to be empty. SVG and some videos have no signature.
abbrev pub class_by_ending : Bool → Ending → NotRead
class_by_ending is_empty ending.Xmp = Sidecar ending.Xmp
class_by_ending is_empty ending.Aae = Sidecar ending.Aae
class_by_ending is_empty ending.Thm = Sidecar ending.Thm
class_by_ending is_empty ending.Svg =
    if is_empty then Empty ending.Svg else Format format.Svg
class_by_ending is_empty ending.Video =
    if is_empty then Empty ending.Video else Format format.Video
class_by_ending is_empty ending.Jpeg =
    if is_empty then Empty ending.Jpeg else Damaged ending.Jpeg
class_by_ending is_empty ending.Png =
    if is_empty then Empty ending.Png else Damaged ending.Png
class_by_ending is_empty ending.Tiff =
    if is_empty then Empty ending.Tiff else Damaged ending.Tiff
class_by_ending is_empty ending.Heif =
    if is_empty then Empty ending.Heif else Damaged ending.Heif
class_by_ending is_empty ending.WebP =
    if is_empty then Empty ending.WebP else Damaged ending.WebP
class_by_ending is_empty ending.JpegXl =
    if is_empty then Empty ending.JpegXl else Damaged ending.JpegXl
class_by_ending is_empty ending.Raw =
    if is_empty then Empty ending.Raw else Damaged ending.Raw
class_by_ending is_empty ending.Gif =
    if is_empty then Empty ending.Gif else Damaged ending.Gif
class_by_ending is_empty ending.Bmp =
    if is_empty then Empty ending.Bmp else Damaged ending.Bmp
class_by_ending is_empty ending.Photoshop =
    if is_empty then Empty ending.Photoshop else Damaged ending.Photoshop
class_by_ending is_empty ending.Jpeg2000 =
    if is_empty then Empty ending.Jpeg2000 else Damaged ending.Jpeg2000
class_by_ending is_empty ending.Pdf =
    if is_empty then Empty ending.Pdf else Damaged ending.Pdf

-- sidecars are only counted
abbrev pub is_named_by : NotRead → Bool
is_named_by (Format format) = true
is_named_by (Damaged ending) = true
is_named_by (Empty ending) = true
is_named_by (Sidecar ending) = false

abbrev pub class_without : Bool → Option Ending → Found
class_without is_empty None = found.Other
class_without is_empty (Some ending) = found.NotRead (class_by_ending is_empty ending)

-- A signature that is read, then another one that is known, then the ending.
abbrev pub class_for : Bool → Bool → Option Unsupported → Option Ending → Found
class_for true is_empty format ending = found.Picture
class_for false is_empty (Some format) ending = found.NotRead (Format format)
class_for false is_empty None ending = class_without is_empty ending

-- A picture is processed if it is chosen; a file that is not read goes with the pictures beside it
-- where such files do, and all else is skipped.
abbrev pub step_for : Found → Bool → FoundStep
step_for found.Picture moves_companions = Choose
step_for (found.NotRead why) true = Beside why
step_for (found.NotRead why) false = Skip
step_for found.Other moves_companions = Skip

-- what is reported of a file that is skipped
abbrev pub reported_of : Found → Option NotRead
reported_of found.Picture = None
reported_of (found.NotRead why) = if is_named_by why then Some why else None
reported_of found.Other = None

-- what a message says of a file that is not read
abbrev pub not_read_text : NotRead → List ℕ
not_read_text (Format format) = codes "not read: " ++ format_text format
not_read_text (Damaged ending) =
    codes "damaged: no known signature of a " ++ (ending_text ending ++ codes " file")
not_read_text (Empty ending) = codes "not read: the file is empty"
not_read_text (Sidecar ending) =
    codes "not read: " ++ (ending_text ending ++ codes " sidecar")
