-- A stream read with its format.
use Rattle.std.specs.Prelude.{Bool, Result, Ok, Err}
use Rattle.exif_types.specs.Failures.{Failure}
use Rattle.exif_types.specs.Refusals.{is_io, is_io_error}
use Rattle.exif_reader.specs.declared.reader.Sniffed.{Sniffed}

-- whether the source failed, before its signature was read or behind it
abbrev pub has_io : Result Sniffed Failure → Bool
has_io (Ok sniffed) = is_io sniffed.answer
has_io (Err e) = is_io_error e
