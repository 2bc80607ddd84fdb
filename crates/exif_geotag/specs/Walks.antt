-- The points of a GPX file.
use Rattle.std.specs.Prelude.{ℕ, zero, suc, ◌+◌, ◌-◌, ◌&&◌, ◌||◌, not, nat_lt, Bool, true, false, if◌then◌else◌, List, [], ◌∷◌, ◌++◌, length, Option, Result, Ok, Err}
use Rattle.exif_locations.specs.declared.xmp.fault.Fault.TheVariants.{Malformed, Doctype, Cut, Unbalanced}
use Rattle.exif_geotag.specs.declared.error.TrackError.{TrackError}
use Rattle.exif_geotag.specs.declared.error.TrackError.TheVariants.{Xml, Other, NotGpx, Empty}
use Rattle.exif_geotag.specs.declared.format.OtherFormat.{OtherFormat}
use Rattle.exif_geotag.specs.declared.point.Point.{Point}
use Rattle.exif_geotag.specs.declared.state.Found.{Found}
use Rattle.exif_geotag.specs.declared.state.Found.TheVariants.{Nothing, Skipped, Kept}
use Rattle.exif_geotag.specs.declared.state.State.{State}
use Rattle.exif_geotag.specs.declared.step.Step.{Step}
use Rattle.exif_geotag.specs.Elements.{until}
use Rattle.exif_geotag.specs.Errors.{named}
use Rattle.exif_geotag.specs.Formats.{other_format}
use Rattle.exif_geotag.specs.Sorting.{in_order}
use Rattle.exif_geotag.specs.States.{at_start}
use Rattle.exif_geotag.specs.Steps.{step_at}

-- points, how many were skipped, and whether the file is cut off behind them
pub record TrackView : Type 0 where
  pub points : List Point
  pub skipped : ℕ
  pub cut_off : Bool

-- the point that is completed
abbrev pub kept_of : Found → List Point
kept_of Nothing = []
kept_of Skipped = []
kept_of (Kept point) = point ∷ []

-- how many points are skipped with it
abbrev pub skipped_of : Found → ℕ
skipped_of Nothing = 0
skipped_of Skipped = 1
skipped_of (Kept point) = 0

-- points, and those behind them
abbrev pub behind : List Point → ℕ → Result TrackView TrackError → Result TrackView TrackError
behind points skipped (Ok rest) = Ok (record {
  points = points ++ rest.points;
  skipped = skipped + rest.skipped;
  cut_off = rest.cut_off;
})
behind points skipped (Err error) = Err error

-- whether markup ends too early
abbrev pub is_cut_markup : TrackError → Bool
is_cut_markup (Xml Cut) = true
is_cut_markup (Xml Malformed) = false
is_cut_markup (Xml Doctype) = false
is_cut_markup (Xml Unbalanced) = false
is_cut_markup (Other format) = false
is_cut_markup NotGpx = false
is_cut_markup Empty = false

-- whether a token that is refused is the cut end of a file: within the root element, its markup ends
-- too early, or none ends behind it
abbrev pub is_cut : State → List ℕ → TrackError → Bool
is_cut s rest error =
    nat_lt 0 s.depth && (is_cut_markup error || not (nat_lt (until 62 rest) (length rest)))

-- whether a file is cut off where a token is refused; or the refusal
abbrev pub refused_at : State → List ℕ → TrackError → Result Bool TrackError
refused_at s rest error = if is_cut s rest error then Ok true else Err error

-- whether a file is cut off where it ends: within a tag, or in an element; it is refused before the
-- first one
abbrev pub ended_at : State → Result Bool TrackError
ended_at s =
    if s.in_tag || nat_lt 0 s.depth then Ok true
    else (if s.rooted then Ok false else Err NotGpx)

-- no points before an end
abbrev pub no_more : Result Bool TrackError → Result TrackView TrackError
no_more (Ok cut_off) = Ok (record { points = []; skipped = 0; cut_off = cut_off })
no_more (Err error) = Err error

-- what a token makes of the walk behind it, or what its refusal does
abbrev pub stepped : (Step → Result TrackView TrackError)
    → (TrackError → Result TrackView TrackError) → Result Step TrackError
    → Result TrackView TrackError
stepped goes_on ends (Ok step) = goes_on step
stepped goes_on ends (Err error) = ends error

-- the points of a file from a state on, where so many bytes are left of the token before
unfoldable pub points_from : List ℕ → State → ℕ → Result TrackView TrackError
points_from [] s left = no_more (ended_at s)
points_from (byte ∷ bytes) s (suc left) = points_from bytes s left
points_from (byte ∷ bytes) s zero =
    stepped
    (λ t. behind (kept_of t.found) (skipped_of t.found) (points_from bytes t.state (t.len - 1)))
    (λ error. no_more (refused_at s (byte ∷ bytes) error)) (step_at s (byte ∷ bytes))

-- the points of a file in the order of their elements
abbrev pub points_of : List ℕ → Result TrackView TrackError
points_of gpx = points_from gpx at_start 0

-- why a file without a point is no track
abbrev pub without_points : Bool → TrackError
without_points cut_off = if cut_off then Xml Cut else Empty

-- points in the order of their times, if there is one
abbrev pub ordered : List Point → ℕ → Bool → Result TrackView TrackError
ordered [] skipped cut_off = Err (without_points cut_off)
ordered (first ∷ points) skipped cut_off =
    Ok (record { points = in_order (first ∷ points); skipped = skipped; cut_off = cut_off })

-- the track of the points that were read; where there are none, what else a file may be
abbrev pub track_from : Option OtherFormat → Result TrackView TrackError
    → Result TrackView TrackError
track_from other (Ok read) = ordered read.points read.skipped read.cut_off
track_from other (Err error) = Err (named other error)

-- the track of a file
abbrev pub track_of : List ℕ → Result TrackView TrackError
track_of gpx = track_from (other_format gpx) (points_of gpx)
