-- Whether a source failed while a picture was read.
use Rattle.std.specs.Prelude.{Bool, Result, Ok, Err}
use Rattle.exif_types.specs.Failures.{Failure}
use Rattle.exif_types.specs.Refusals.{is_io, is_io_error}
use Rattle.exif_formats.specs.declared.picture.Picture.{Picture}

-- before its signature was read, or after it
abbrev pub has_io : Result Picture Failure → Bool
has_io (Ok picture) = is_io picture.answer
has_io (Err e) = is_io_error e
