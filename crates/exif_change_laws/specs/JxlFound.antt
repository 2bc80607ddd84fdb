-- What the reader finds in JPEG XL files that were written again.
use Rattle.std.specs.Prelude.{◌≡◌, ℕ, List, Some, Ok}
use Rattle.exif_segments.specs.declared.remove.Remove.{Remove}
use Rattle.exif_containers.specs.Container.{data_of}
use Rattle.exif_formats.specs.Jxl.{jxl_answer}
use Rattle.exif_parts.specs.Jxl.{jxl_rewritten}
use Rattle.exif_parts.specs.Written.{Written}

-- the data that are put into a file are what is found in the new one
abbrev pub JxlIsFound : Remove → List ℕ → List ℕ → Written → Type 0
JxlIsFound remove payload file new =
    jxl_rewritten remove (Some payload) file ≡ Ok new
    → data_of (jxl_answer new.bytes) ≡ Ok payload
