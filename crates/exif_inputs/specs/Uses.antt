-- What is required of a file that is read, and what one is found to be.
use Rattle.std.specs.Prelude.{ℕ, ⊤, ◌==◌, Bool, true, false, List, length, Option, None, Some}
use Rattle.exif_decisions.specs.Endings.{ending_in}
use Rattle.exif_decisions.specs.Found.{class_for}
use Rattle.exif_decisions.specs.Paths.{name_of}
use Rattle.exif_decisions.specs.Unsupported.{unsupported}
use Rattle.exif_decisions.specs.declared.found.Found.{Found}
use Rattle.exif_decisions.specs.declared.found.Found.TheVariants as found
use Rattle.exif_formats.specs.Formats.{format_in}
use Rattle.exif_formats.specs.declared.format.PictureFormat.{PictureFormat}
use Rattle.exif_formats.specs.declared.format.PictureFormat.TheVariants.{Container, Png, JpegXl, Raf, Orf, Rw2, Cr3}
use Rattle.exif_inputs.specs.declared.inputs.Input.{Input}
use Rattle.exif_inputs.specs.declared.inputs.Input.TheVariants as input
use Rattle.exif_inputs.specs.declared.inputs.Use.{Use}
use Rattle.exif_inputs.specs.declared.inputs.Use.TheVariants.{Fields, Parts}

-- whether the parts of pictures of a format are known: raw files are only read
abbrev pub has_parts : PictureFormat → Bool
has_parts Raf = false
has_parts Orf = false
has_parts Rw2 = false
has_parts Cr3 = false
has_parts (Container format) = true
has_parts Png = true
has_parts JpegXl = true

-- whether a format, if it is known, serves a use
abbrev pub serves : Option PictureFormat → Use → Bool
serves None wanted = false
serves (Some format) Fields = true
serves (Some format) Parts = has_parts format

-- an input that is held, and read again from memory alone
abbrev pub IsInMemory : Input → Type 0
IsInMemory (input.Bytes bytes) = ⊤
IsInMemory (input.File file) = ⊥

-- the bytes of one
abbrev pub held : Input → Option (List ℕ)
held (input.Bytes bytes) = Some bytes.items
held (input.File file) = None

-- what is done with a file that was found in a folder, by its first bytes, if they can be read, and
-- its path: one that can't be read is processed, which reports that
abbrev pub found_for : Option (List ℕ) → List ℕ → Use → Found
found_for None path wanted = found.Picture
found_for (Some head) path wanted =
    class_for (serves (format_in head) wanted) (length head == 0) (unsupported head)
    (ending_in (name_of path))
