-- Which location a picture gets by a track, or why none.
use Rattle.std.specs.Prelude.{ℕ, Bool, not, ◌&&◌, if◌then◌else◌, List, codes, Option, Some, None, Result, Ok, Err}
use Rattle.exif_types.specs.declared.field.Field.{Field}
use Rattle.exif_summary.specs.Choices.{is_located}
use Rattle.exif_geotag.specs.Between.{fix_at}
use Rattle.exif_geotag.specs.Located.{time_in}
use Rattle.exif_geotag.specs.Moments.{moment_at}
use Rattle.exif_geotag.specs.declared.moment.Moment.{Moment}
use Rattle.exif_geotag.specs.declared.point.Fix.{Fix}
use Rattle.exif_geotag.specs.declared.point.Point.{Point}
use Rattle.exif_geotag.specs.declared.spot.Spot.{Spot}
use Rattle.exif_geotag.specs.declared.spot.Unlocated.{Unlocated}
use Rattle.exif_geotag.specs.declared.spot.Unlocated.TheVariants.{NoDate, HasLocation, NotOnTrack}

-- a location and its time, if both are known
abbrev pub placed : Option Fix → Option Moment → Result Spot Unlocated
placed (Some fix) (Some moment) = Ok (record { fix = fix; moment = moment })
placed (Some fix) None = Err NotOnTrack
placed None moment = Err NotOnTrack

-- the location of a track at a time, unless the picture has one that is to stay
abbrev pub spot_at : List Field → ℕ → Bool → List Point → ℕ → Result Spot Unlocated
spot_at fields max_gap overwrite points time =
    if not overwrite && is_located fields then Err HasLocation
    else placed (fix_at max_gap time points) (moment_at time)

-- the same where a picture may have no date
abbrev pub spot_by : List Field → ℕ → Bool → List Point → Option ℕ → Result Spot Unlocated
spot_by fields max_gap overwrite points None = Err NoDate
spot_by fields max_gap overwrite points (Some time) =
    spot_at fields max_gap overwrite points time

-- which location a picture with these fields gets, in a zone where it names none, or why none
abbrev pub spot_in : List Field → List ℕ → ℕ → Bool → List Point → Result Spot Unlocated
spot_in fields zone max_gap overwrite points =
    spot_by fields max_gap overwrite points (time_in fields zone)

-- why it gets none
abbrev pub unlocated_text : Unlocated → List ℕ
unlocated_text NoDate = codes "no location is set: it has no date"
unlocated_text HasLocation =
    codes "no location is set: it has one; --overwrite replaces it"
unlocated_text NotOnTrack =
    codes "no location is set: the track has none for its time"
