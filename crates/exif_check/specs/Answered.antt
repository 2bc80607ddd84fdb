-- What is answered of a file that is to be checked.
use Rattle.std.specs.Prelude.{ℕ, List, [], codes, Option, Some, None, Result, Ok, Err}
use Rattle.exif_formats.specs.Formats.{format_in}
use Rattle.exif_formats.specs.declared.format.PictureFormat.{PictureFormat}
use Rattle.exif_formats.specs.declared.format.PictureFormat.TheVariants.{JpegXl}
use Rattle.exif_types.specs.Refusals.{Refusal, invalid_format, not_supported}
use Rattle.exif_check.specs.Checking.{checked}
use Rattle.exif_check.specs.declared.checked.Checked.{Checked}

-- a file of a format whose parts are not known: a codestream of JPEG XL has no metadata, which are in
-- boxes of its container (ISO/IEC 18181-2)
abbrev pub without_parts : Option PictureFormat → Result (List Checked) Refusal
without_parts None = Err (invalid_format (codes "Unknown image format"))
without_parts (Some JpegXl) = Ok []
without_parts (Some _) = Err (not_supported (codes "files of this format are not checked"))

-- its parts, if they are known
abbrev pub answer_by : Option (List Checked) → Option PictureFormat
    → Result (List Checked) Refusal
answer_by (Some parts) format = Ok parts
answer_by None format = without_parts format

-- the parts of a file with their judgements, or why it is not checked
abbrev pub checked_answer : List ℕ → Result (List Checked) Refusal
checked_answer file = answer_by (checked file) (format_in file)
