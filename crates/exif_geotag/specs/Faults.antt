-- What a track that was read lacks, and what the user is to know of it.
use Rattle.std.specs.Prelude.{ℕ, ◌-◌, ◌==◌, Bool, if◌then◌else◌, List, ◌++◌, codes, length, slice_get, Option, Some, None, option_and_then}
use Rattle.std.specs.Fmt.{decimal}
use Rattle.exif_geotag.specs.Moments.{moment_at, moment_text}
use Rattle.exif_geotag.specs.declared.fault.TrackFault.{TrackFault}
use Rattle.exif_geotag.specs.declared.fault.TrackFault.TheVariants.{Skipped, CutOff}
use Rattle.exif_geotag.specs.declared.moment.Moment.{Moment}
use Rattle.exif_geotag.specs.declared.point.Point.{Point}

-- points were skipped
abbrev pub skipped_fault : ℕ → Option TrackFault
skipped_fault skipped = if skipped == 0 then None else Some (Skipped skipped)

-- the time of the last point
abbrev pub last_moment : List Point → Option Moment
last_moment points =
    option_and_then (λ point. moment_at point.time) (slice_get points (length points - 1))

-- the file is cut off behind these points
abbrev pub cut_fault : List Point → Bool → Option TrackFault
cut_fault points cut_off = if cut_off then Some (CutOff (last_moment points)) else None

-- what is written of it
abbrev pub fault_text : TrackFault → List ℕ
fault_text (Skipped count) =
    if count == 1 then codes "1 point without a time or a location was skipped"
    else decimal count ++ codes " points without a time or a location were skipped"
fault_text (CutOff (Some last)) =
    codes "the file is cut off; the track is used up to " ++ moment_text last
fault_text (CutOff None) = codes "the file is cut off; the track is used up to there"
