-- What was read of a file, as contracts see it.
use Rattle.std.specs.Prelude.{ℕ, Bool, List, Result, Ok, Err}
use Rattle.exif_geotag.specs.declared.error.TrackError.{TrackError}
use Rattle.exif_geotag.specs.declared.gpx.Read.{Read}
use Rattle.exif_geotag.specs.declared.point.Point.{Point}
use Rattle.exif_geotag.specs.Walks.{TrackView}

-- points that were read up to an end, or why there are none
abbrev pub walked : List Point → ℕ → Result Bool TrackError → Result TrackView TrackError
walked points skipped (Ok cut_off) =
    Ok (record { points = points; skipped = skipped; cut_off = cut_off })
walked points skipped (Err error) = Err error

-- the same of what the walk answers
abbrev pub read_points : Result Read TrackError → Result TrackView TrackError
read_points (Ok read) = Ok (record {
  points = read.points.kept.items;
  skipped = read.points.skipped;
  cut_off = read.cut_off;
})
read_points (Err error) = Err error
