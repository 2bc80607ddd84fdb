-- The lines of a report.
use Rattle.std.specs.Prelude.{ℕ, List, ◌++◌, codes}
use Rattle.exif_text.specs.IfdTexts.{ifd_text}
use Rattle.exif_types.specs.TagTexts.{tag_text}
use Rattle.exif_types.specs.Units.{unit_text}
use Rattle.exif_types.specs.Failures.{Failure, told_text, bytes_of}
use Rattle.exif_types.specs.declared.field.Field.{Field}

-- one of the fields: its tag, its directory and its value with its unit
unfoldable pub field_line : List Field → Field → List ℕ
field_line fields field =
    tag_text field.tag ++ (codes " "
    ++ (ifd_text field.ifd_num.0 ++ (codes " " ++ (unit_text field fields ++ codes "\n"))))

-- a fault that was skipped, by its text
unfoldable pub fault_line : List ℕ → List ℕ
fault_line text = codes "fault: " ++ (text ++ codes "\n")

-- and as an error
unfoldable pub error_line : Failure → List ℕ
error_line e = fault_line (bytes_of (told_text e))
