-- How a located reading says an answer.
use Rattle.std.specs.Prelude.{Result, Ok, Err}
use Rattle.exif_tiff.specs.declared.stop.Stop.{Stop}
use Rattle.exif_tiff.specs.declared.tiff.Parsed.{Parsed}
use Rattle.exif_edit_base.specs.declared.walk.Located.{Located}

-- what was read, without its offsets
abbrev pub parsed_of : Result Located Stop → Result Parsed Stop
parsed_of (Ok located) = Ok located.parsed
parsed_of (Err stop) = Err stop
