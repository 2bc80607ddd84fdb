-- Why a file was not written, in words.
use Rattle.std.specs.Prelude.{ℕ, List, codes, Option, Some, None}
use Rattle.exif_files.specs.declared.failure.WriteError.{WriteError}
use Rattle.exif_files.specs.declared.failure.WriteError.TheVariants as error

-- why a file was not written; the text of the system's own error is not known
abbrev pub error_text : WriteError → Option (List ℕ)
error_text (error.Io cause) = None
error_text error.Taken = Some (codes "file exists")
error_text error.OtherDevice = Some (codes "its new name is on another device")
error_text error.Crowded = Some (codes "too many temporary files named .mexaldor-N; delete them")
error_text error.OutOfMemory = Some (codes "out of memory")
